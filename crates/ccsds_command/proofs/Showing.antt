-- What two reads, of the sizes and of the samples, tell of the input.
use Rattle.std.proofs.Common.{◌≡◌, ◌≢◌, ◌⊎◌, ℕ, ◌+◌, ◌-◌, ◌*◌, ◌<◌, ◌≤◌, min, true, false, eqb, ltb, List, [], ◌++◌, length, take, drop, get_or, Option, Some}
use Rattle.std.proofs.Common.{Result, Ok, Err, IfOk, IfErr, OnOk, inl, inr, refl, sym, ap, ◌∙◌, subst, append_assoc, append-nil, length-append, arith}
use Rattle.std.proofs.lemmas.List.{get_or_append_left, get_or-take, get_or-drop}
use Rattle.std.proofs.lemmas.Bool.{lt-ltb, le-ltb, ne_eqb}
use Rattle.std.proofs.lemmas.Int.{ints}
use Rattle.cube_core.specs.declared.fault.Fault.{Fault}
use Rattle.cube_core.specs.declared.fault.Fault.TheVariants.{WantOfMemory, RawLength}
use Rattle.cube_core.specs.Shape.{sample_count}
use Rattle.cube_core.specs.Raw.{IsBadSample}
use Rattle.command_devices.specs.Devices.{Gave, GaveWithin, IsEnd}
use Rattle.ccsds_command.specs.Show.{shown_kind, shown_layout, sizes_of, show_limit, length_fault, IsTextOf, IsShown, IsShowRefusal}
use Rattle.command_devices.proofs.Devices.{gave_more}

-- the sizes stand in the first six bytes
pub sizes_front : (x rest : List ℕ) → length x ≡ 6 → sizes_of (x ++ rest) ≡ sizes_of x
sizes_front x rest e =
    let at : (i : ℕ) → i < 6 → get_or (x ++ rest) i 0 ≡ get_or x i 0 = λ i lt. get_or_append_left x rest 0 i (omega (arith, e, lt)) in
    rw (at 0 (omega arith), at 1 (omega arith), at 2 (omega arith), at 3 (omega arith), at 4 (omega arith), at 5 (omega arith)) refl

-- the sizes were read, and then at most the samples and a byte
pub within_limit : (a b c : Option (List ℕ)) (x : List ℕ) (n : ℕ) → length x ≡ 6 → n ≡ sample_count (sizes_of x) + 1 → Gave a b x → GaveWithin (λ _. n) b c
    → GaveWithin show_limit a c
within_limit a b c x n six limit first second before e =
    let one = first before e in
    let two = second one.0 one.1 in
    let whole : before ≡ (x ++ two.0) ++ two.1 = one.2 ∙ ap (λ (y : List ℕ). x ++ y) two.3 ∙ sym (append_assoc x two.0 two.1) in
    let front : sizes_of before ≡ sizes_of x = ap sizes_of (whole ∙ append_assoc x two.0 two.1) ∙ sizes_front x (two.0 ++ two.1) six in
    let count : sample_count (sizes_of before) ≡ sample_count (sizes_of x) = ap sample_count front in
    (x ++ two.0, two.1, two.2, whole, omega (arith, length-append x two.0, count, two.4, six, limit))

-- the input is what was read, where the samples are as many as the sizes say
pub told_whole : (a b c : Option (List ℕ)) (x y text : List ℕ) (n : ℕ) → length x ≡ 6 → Gave a b x → Gave b c y → (length y ≡ n + 1) ⊎ IsEnd c → length y ≡ n
    → IsTextOf (x ++ y) text → IsShown a text
told_whole a b c x y text n six first second end whole is = record { told = told; some_input = x ++ y; some = is }
  where
    told : (input : List ℕ) → a ≡ Some input → IsTextOf input text
    told input e =
        let all = gave_more a b c x y first second input e in
        let none : all.0 ≡ [] = elim end [ inl h ↦ absurd (omega (arith, h, whole)) | inr h ↦ h all.0 all.1 ] in
        let same : input ≡ x ++ y = all.2 ∙ ap (λ (rest : List ℕ). (x ++ y) ++ rest) none ∙ append-nil (x ++ y) in
        subst (λ (i : List ℕ). IsTextOf i text) (sym same) is

fault_by : (input : List ℕ) (had : ℕ) → 6 ≤ length input → had ≡ min (length input - 6) (sample_count (sizes_of input) + 1)
    → had ≢ sample_count (sizes_of input) → length_fault input ≡ Some (RawLength (sample_count (sizes_of input)) had)
fault_by input had long is other =
    let far : ltb (length input) 6 ≡ false = le-ltb _ _ long in
    let apart : eqb had (sample_count (sizes_of input)) ≡ false = ne_eqb had (sample_count (sizes_of input)) other in
    rw (far, ← is, apart) refl

-- six bytes and then samples were read, and not as many as the six say
read_fault : (x y : List ℕ) (n : ℕ) → length x ≡ 6 → n ≡ sample_count (sizes_of x) → length y ≤ n + 1 → length y ≢ n
    → length_fault (x ++ y) ≡ Some (RawLength n (length y))
read_fault x y n six is most other =
    let wanted : sample_count (sizes_of (x ++ y)) ≡ n = ap sample_count (sizes_front x y six) ∙ sym is in
    let long : length (x ++ y) ≡ 6 + length y = length-append x y ∙ omega (arith, six) in
    rw (← wanted) (fault_by (x ++ y) (length y) (omega (arith, long)) (omega (arith, most, long, wanted)) (λ g. other (g ∙ wanted)))

-- the samples are too few, or one more than the sizes say was read
pub wrong_length : (a b c : Option (List ℕ)) (x y : List ℕ) (n : ℕ) → length x ≡ 6 → n ≡ sample_count (sizes_of x) → Gave a b x → Gave b c y → length y ≤ n + 1
    → (length y ≡ n + 1) ⊎ IsEnd c → length y ≢ n → (input : List ℕ) → a ≡ Some input → length_fault input ≡ Some (RawLength n (length y))
wrong_length a b c x y n six is first second most end other input e =
    let all = gave_more a b c x y first second input e in
    let front : sizes_of input ≡ sizes_of x = ap sizes_of (all.2 ∙ append_assoc x y all.0) ∙ sizes_front x (y ++ all.0) six in
    let wanted : sample_count (sizes_of input) ≡ n = ap sample_count front ∙ sym is in
    let long : length input ≡ 6 + length y + length all.0 =
    ap (λ (z : List ℕ). length z) all.2 ∙ length-append (x ++ y) all.0 ∙ omega (arith, length-append x y, six) in
    let had : length y ≡ min (length input - 6) (sample_count (sizes_of input) + 1) = elim end [
      | inl h ↦ omega (arith, h, long, wanted)
      | inr h ↦ omega (arith, most, long, wanted, ap (λ (z : List ℕ). length z) (h all.0 all.1))
    ] in
    rw (← wanted) (fault_by input (length y) (omega (arith, long)) had (λ g. other (g ∙ wanted)))

-- fewer than six bytes came
pub too_short : (a b : Option (List ℕ)) (x : List ℕ) → Gave a b x → (length x ≡ 6) ⊎ IsEnd b → length x < 6 → (input : List ℕ) → a ≡ Some input
    → length_fault input ≡ Some (RawLength 6 (length x))
too_short a b x first end few input e =
    let all = first input e in
    let none : all.0 ≡ [] = elim end [ inl h ↦ absurd (omega (arith, h)) | inr h ↦ h all.0 all.1 ] in
    let same : input ≡ x = all.2 ∙ ap (λ (rest : List ℕ). x ++ rest) none ∙ append-nil x in
    let short : ltb (length input) 6 ≡ true = rw same (lt-ltb _ _ few) in
    rw (short, same) refl

-- each byte is a sample of 8 bits
pub bytes_are_samples : (bytes : List ℕ) (e : Fault) → ((i : ℕ) → get_or bytes i 0 < 256) → IsBadSample shown_kind shown_layout bytes e → ⊥
bytes_are_samples bytes e small bad =
    let i : ℕ = bad.0 in
    let byte : get_or (take 1 (drop (bad.0 * 1) bytes)) 0 0 < 256 =
    rw (get_or-take 1 (drop (bad.0 * 1) bytes) 0 0 (omega arith), get_or-drop (bad.0 * 1) bytes 0 0) (small (bad.0 * 1 + 0)) in
    bad.2.bad (omega (arith, ints), omega (arith, ints, byte))

-- what the text's making answers is what the input's run answers
pub shown_by : {T : Type 0} (r : Result T Fault) (items : T → List ℕ) (a b c : Option (List ℕ)) (x y : List ℕ) (n : ℕ) → length x ≡ 6 → Gave a b x → Gave b c y
    → (length y ≡ n + 1) ⊎ IsEnd c → OnOk r (length y ≡ n) → IfOk r (λ t. IsTextOf (x ++ y) (items t)) → IfOk r (λ t. IsShown a (items t))
shown_by (Ok t) items a b c x y n six first second end whole is = told_whole a b c x y (items t) n six first second end whole is
shown_by (Err e) items a b c x y n six first second end whole is = tt

pub refused_by : {T : Type 0} (r : Result T Fault) (a b c : Option (List ℕ)) (x y : List ℕ) (n failures failures_now : ℕ) → length x ≡ 6
    → n ≡ sample_count (sizes_of x) → Gave a b x → Gave b c y → length y ≤ n + 1 → (length y ≡ n + 1) ⊎ IsEnd c
    → IfErr r (λ e. (e ≡ WantOfMemory) ⊎ ((e ≡ RawLength n (length y)) × (length y ≢ n))) → IfErr r (IsShowRefusal a failures failures_now)
refused_by (Ok t) a b c x y n failures failures_now six is first second most end h = tt
refused_by (Err e) a b c x y n failures failures_now six is first second most end (inl h) = inr (inl h)
refused_by (Err e) a b c x y n failures failures_now six is first second most end (inr (h, k)) =
    inr (inr ((x ++ y, rw h (read_fault x y n six is most k)), λ input f. rw h (wrong_length a b c x y n six is first second most end k input f)))
