-- What a body is by either coder, and what comes after it; a file has no fault, and is a file of one cube alone.
use Rattle.std.specs.List.{AllByRecursion}
use Rattle.std.proofs.Common.{◌≡◌, ◌≤◌, ◌<◌, ◌^◌, ◌*◌, ℕ, zero, suc, Bool, true, false, leb, List, [], ◌∷◌, ◌++◌, length, replicate, Ok, Err, refl, sym, ap}
use Rattle.std.proofs.Common.{subst, ◌∙◌, append_assoc, length-append, arith}
use Rattle.std.proofs.lemmas.Bool.{le-ltb, leb-false, lt-leb}
use Rattle.std.proofs.lemmas.List.{append_cancel_left, length-map, length-replicate}
use Rattle.cube_core.specs.declared.fault.Fault.TheVariants.{BadFill}
use Rattle.cube_core.specs.declared.order.Place.{Place}
use Rattle.cube_core.specs.Order.{places}
use Rattle.cube_core.specs.Shape.{sample_count}
use Rattle.cube_core.specs.Steps.{◌>>=◌, refuse_if}
use Rattle.cube_core.specs.Kind.{SampleKind}
use Rattle.cube_core.specs.Image.{Image}
use Rattle.cube_core.proofs.Orders.{length-places}
use Rattle.header_bits.specs.declared.params.Params.{Params}
use Rattle.header_bits.specs.declared.params.Coder.{Coder}
use Rattle.header_bits.specs.declared.params.Coder.TheVariants.{Sample, Block}
use Rattle.header_bits.specs.Bits.{bits_of_bytes}
use Rattle.header_bits.specs.Reading.{Reading}
use Rattle.header_bits.specs.Header.{header_at}
use Rattle.header_bits.specs.Parts.{fine, IsExact}
use Rattle.header_bits.specs.Lawful.{IsLawful, IsCoder}
use Rattle.header_bits.proofs.Exact.{one_spelling}
use Rattle.header_bits.proofs.Headers.{header_exact}
use Rattle.predict_core.specs.Cubes.{IsCubeOf}
use Rattle.sample_prediction.specs.Residual.{residuals}
use Rattle.predict_core.proofs.OneCube.{residuals_inside, one_cube}
use Rattle.sample_adaptive.specs.Settings.{settings}
use Rattle.sample_adaptive.specs.Reading.{sample_body_at}
use Rattle.sample_adaptive.proofs.Exact as samples
use Rattle.sample_adaptive.proofs.ForSamples.{settings_bits}
use Rattle.block_adaptive.specs.declared.options.CodeSet.{CodeSet}
use Rattle.block_adaptive.proofs.Exact as blocks
use Rattle.block_adaptive.proofs.Handed.{size_least}
use Rattle.block_adaptive.proofs.Segmented.{no_shorter_body}
use Rattle.file_format.specs.Files.{IsBodyBy, IsBody, IsFile, after_by, after_body, some_one, fill_test, body_test, head_at, file_test}
use Rattle.file_format.specs.MinimumLength.{minimum_length_by, minimum_length, minimum_length_test}
use Rattle.file_format.specs.Laws.{FileIsFine, OneFile}

-- ---- what bodies are, by either coder

-- numbers in range, one for each sample, and a body of them
abbrev pub IsBodyOf : Params → Coder → List ℕ → List Bool → Type 0
IsBodyOf p coder numbers body = (length numbers ≡ sample_count p.shape) × AllByRecursion (λ v. v < 2 ^ p.kind.bits) numbers × IsBodyBy coder p numbers body

-- the numbers of a body
abbrev pub numbers_at : Coder → ℕ → Params → Reading (List ℕ)
numbers_at (Sample umax gamma_star gamma_zero start) count p = sample_body_at count (settings p) (places p.shape p.order)
numbers_at (Block size restricted reference) count p =
    blocks.numbers_at count (record { bits = p.kind.bits; restricted = restricted }) size reference (sample_count p.shape)

-- exactly the bodies are read, and none is shorter than the least
pub record AreBodies (p : Params) (coder : Coder) : Type 0 where
  pub exact : (count : ℕ) → IsExact (numbers_at coder count p) (IsBodyOf p coder)
  pub left_over : (count : ℕ) (bits : List Bool) → after_by coder count p bits ≡ (numbers_at coder count p bits >>= λ read. Ok read.1)
  pub least : (numbers : List ℕ) (body : List Bool) → IsBodyOf p coder numbers body → minimum_length_by coder (sample_count p.shape) ≤ length body

bodies : (p : Params) (coder : Coder) → IsLawful p → IsCoder p coder → AreBodies p coder
bodies p (Sample umax gamma_star gamma_zero start) lawful h =
    let along : List Place = places p.shape p.order in
    let whole = length-places p.shape p.order lawful.order in
    let deep : 1 ≤ (settings p).bits = omega (arith, settings_bits p, lawful.kind) in
    record {
      exact = λ count. rw (whole, settings_bits p) at (samples.body_exact count (settings p) along);
      left_over = λ count bits. refl;
      least = λ numbers body b. omega (arith, samples.no_shorter_body (settings p) along numbers deep (b.0 ∙ sym whole), ap length b.2, b.0);
    }
bodies p (Block size restricted reference) lawful h =
    let set : CodeSet = record { bits = p.kind.bits; restricted = restricted } in
    let two : 2 ≤ size = omega (arith, size_least size h.0) in
    record {
      exact = λ count. blocks.body_exact count set size reference (sample_count p.shape) h.0 h.2.0;
      left_over = λ count bits. blocks.same_left count set size reference (sample_count p.shape) bits;
      least = λ numbers body b. rw b.0 at (no_shorter_body set size reference numbers body (omega (arith, lawful.kind)) two h.2.0 b.2);
    }

module _ (p : Params) (lawful : IsLawful p) where
  pub are_bodies : AreBodies p p.coder
  are_bodies = bodies p p.coder lawful lawful.coder

  -- a body is read again, whatever follows
  pub after_again : (count : ℕ) (numbers : List ℕ) (body rest : List Bool) → IsBodyOf p p.coder numbers body → after_body count p (body ++ rest) ≡ Ok rest
  unfolding after_body
  after_again count numbers body rest b = rw (are_bodies.left_over count (body ++ rest), (are_bodies.exact count).again numbers body rest b) refl

  -- ---- residuals of a cube of the parameters

  pub inside : (c : Image) → IsCubeOf p c → AllByRecursion (λ v. v < 2 ^ p.kind.bits) (residuals p c)
  inside c cube =
      let range = residuals_inside p c (rw cube.shape lawful.order) cube.cube in
      subst (λ (k : SampleKind). AllByRecursion (λ v. v < 2 ^ k.bits) (residuals p c)) cube.kind range

  pub body_of_cube : (c : Image) (body : List Bool) → IsCubeOf p c → IsBody p (residuals p c) body → IsBodyOf p p.coder (residuals p c) body
  unfolding residuals
  body_of_cube c body cube coded =
      let whole = length-places c.shape p.order (rw cube.shape lawful.order) in
      (length-map (places c.shape p.order) _ ∙ whole ∙ ap sample_count cube.shape, inside c cube, coded)

-- ---- what comes after a body: few bits, and no one among them

none_one : (n : ℕ) → some_one (replicate n false) ≡ false
none_one zero = refl
none_one (suc n) = none_one n

all_zeros : (left : List Bool) → some_one left ≡ false → left ≡ replicate (length left) false
all_zeros [] h = refl
all_zeros (true ∷ left) h = absurd (cc)
all_zeros (false ∷ left) h = ap (λ (bs : List Bool). false ∷ bs) (all_zeros left h)

-- few bits are tested for a one
few_tested : (word : ℕ) (left : List Bool) → length left < 8 * word → fill_test word left ≡ refuse_if (some_one left) BadFill
few_tested word left few = rw (lt-leb (8 * word) (length left) few) refl

pub zeros_pass : (word n : ℕ) → n < 8 * word → fill_test word (replicate n false) ≡ fine
zeros_pass word n few = few_tested word (replicate n false) (rw (length-replicate n false) few) ∙ rw (none_one n) refl

pub ones_fail : (word : ℕ) (left : List Bool) → length left < 8 * word → (left ≡ replicate (length left) false → ⊥) → fill_test word left ≡ Err BadFill
ones_fail word left few ones = few_tested word left few ∙ by_ones (some_one left) refl
  where
    by_ones : (b : Bool) → some_one left ≡ b → refuse_if b BadFill ≡ Err BadFill
    by_ones true e = refl
    by_ones false e = absurd (ones (all_zeros left e))

pub passed : (word : ℕ) (left : List Bool) → fill_test word left ≡ fine → (length left < 8 * word) × (left ≡ replicate (length left) false)
passed word left h = by_tests (leb (8 * word) (length left)) (some_one left) refl refl
  where
    by_tests : (long one : Bool) → leb (8 * word) (length left) ≡ long → some_one left ≡ one
        → (length left < 8 * word) × (left ≡ replicate (length left) false)
    by_tests true one e f = absurd (let g = rw e at h in cc)
    by_tests false true e f = absurd (let g = rw (e, f) at h in cc)
    by_tests false false e f = (leb-false _ _ e, all_zeros left f)

-- ---- a file has no fault, and there is one of its bytes

module _ (bytes : List ℕ) (p : Params) (c : Image) (lawful : IsLawful p) (f : IsFile bytes p c) where
  pub file_text : bits_of_bytes bytes ≡ f.header ++ (f.body ++ replicate f.fill false)
  file_text = f.text ∙ append_assoc f.header f.body (replicate f.fill false)

  body_of_file : IsBodyOf p p.coder (residuals p c) f.body
  body_of_file = body_of_cube p lawful c f.body f.cube f.coded

  pub body_long : minimum_length p ≤ length f.body
  body_long = (are_bodies p lawful).least _ _ body_of_file

pub file_is_fine : FileIsFine
unfolding file_test body_test head_at
file_is_fine bytes p c lawful f =
    let later : List Bool = f.body ++ replicate f.fill false in
    let count : ℕ = length (f.header ++ later) in
    let header = header_exact.again p f.header later f.spelt in
    let body = after_again p lawful count _ f.body (replicate f.fill false) (body_of_file bytes p c lawful f) in
    let enough : minimum_length_test count p later ≡ fine =
    rw (le-ltb (length later) (minimum_length p) (omega (arith, body_long bytes p c lawful f, length-append {A = Bool}))) refl in
    rw (file_text bytes p c lawful f, header, enough, body) (zeros_pass p.word f.fill f.few)

pub one_file : OneFile
one_file bytes p q c d lawful f g =
    let whole : f.header ++ (f.body ++ replicate f.fill false) ≡ g.header ++ (g.body ++ replicate g.fill false) =
    sym (file_text bytes p c lawful f) ∙ g.text ∙ append_assoc g.header g.body _ in
    let one = one_spelling _ _ header_exact _ _ _ _ _ _ f.spelt g.spelt whole in
    let cube : IsCubeOf p d = rw one.0 g.cube in
    let body = body_of_cube p lawful d g.body cube (rw one.0 g.coded) in
    let later = append_cancel_left g.header _ _ (rw one.1 at whole) in
    let same = one_spelling _ _ ((are_bodies p lawful).exact 0) _ _ _ _ _ _ (body_of_file bytes p c lawful f) body later in
    (one.0, one_cube p c d lawful f.cube cube same.0)

-- ---- a header, a body of the cube's residuals and fill without a fault are a file

pub whole_file : (bytes : List ℕ) (p : Params) (c : Image) (rest left body : List Bool) → header_at (bits_of_bytes bytes) ≡ Ok (p, rest)
    → IsCubeOf p c → IsBody p (residuals p c) body → rest ≡ body ++ left → fill_test p.word left ≡ fine → IsFile bytes p c
whole_file bytes p c rest left body header cube coded text f =
    let found = header_exact.found p _ rest header in
    let zeros = passed _ _ f in
    record {
      cube = cube;
      header = found.0;
      body = body;
      fill = length left;
      spelt = found.1;
      coded = coded;
      few = zeros.0;
      text = found.2 ∙ rw (append_assoc found.0 body _, ← zeros.1, ← text) refl;
    }
