use Rattle.std.proofs.Common.{ℕ, suc, ◌≡◌, ◌+◌, ◌*◌, ◌^◌, ◌≤◌, ap, refl, ◌∙◌, arith}
use Rattle.std.proofs.lemmas.Simd.{get_or-replicate}
use Rattle.std.proofs.Math.Nat.{pow-succ'}
use Rattle.std.proofs.Math.Pow.{pow_mono}
use Rattle.sample_adaptive.proofs.kept_codes.KeptCodes.of.Goals as goal

pub returns-clause-kept : goal.returns-clause-kept
returns-clause-kept c =
    let k : ℕ = c.args.k in
    let most : 2 ^ k ≤ 2 ^ 14 = pow_mono {i = k} {j = 14} (omega (arith, c.requires)) in
    let one : k + 1 ≡ suc k = omega arith in
    let twice : 2 ^ (k + 1) ≡ 2 * 2 ^ k = ap (λ j. 2 ^ j) one ∙ pow-succ' 2 k in
    record {
      k = c.requires.0;
      row = refl;
      power = λ j within. get_or-replicate {A = ℕ} 8 j _ 0 within ∙ omega (arith, most);
      next_power = λ j within. get_or-replicate {A = ℕ} 8 j _ 0 within ∙ omega (arith, most, twice);
      shortest = λ j within. get_or-replicate {A = ℕ} 8 j _ 0 within;
      longest = λ j within. let is = get_or-replicate {A = ℕ} 8 j c.min.result 0 within in (omega (arith, is, c.min.ensures), omega (arith, is, c.min.ensures));
    }
