-- Parts of raw bytes that came, and that went out.
use Rattle.std.proofs.Common.{◌≡◌, ◌+◌, ◌*◌, ◌<◌, ◌≤◌, ◌^◌, ℕ, List, [], ◌++◌, length, take, drop, Option, Some, Result, Ok, IfOk, IfErr}
use Rattle.std.proofs.Common.{refl, sym, ap, ◌∙◌, arith, inl, inr, length-append, length-take, length-drop, append-nil, take-add, take-take}
use Rattle.std.proofs.lemmas.List.{take_all, take_at}
use Rattle.std.proofs.lemmas.Nat.{mul-le}
use Rattle.std.proofs.lemmas.Result.{IfOk-weaker, IfErr-weaker}
use Rattle.cube_core.specs.declared.fault.Fault.{Fault}
use Rattle.cube_core.specs.declared.fault.Fault.TheVariants.{RawLength}
use Rattle.cube_core.specs.declared.layout.Layout.{Layout}
use Rattle.cube_core.specs.declared.part.Part.{Part}
use Rattle.cube_core.specs.Image.{Image, IsCube}
use Rattle.cube_core.specs.Kind.{SampleKind}
use Rattle.cube_core.specs.Layout.{IsLayout, raw_bytes, HaveBytes}
use Rattle.cube_core.specs.Parts.{IsPart, first_sample, part_samples}
use Rattle.cube_core.specs.Raw.{AreSamples, IsFound}
use Rattle.cube_core.specs.Shape.{Sizes, sample_count}
use Rattle.cube_core.proofs.PartBytes.{part_within}
use Rattle.cube_core.proofs.RawBytes.{length-raw_bytes}
use Rattle.cube_core.proofs.Raws.{product_small}
use Rattle.command_devices.specs.Devices.{Gave, GaveWithin, IsAll, IsEnd, IsFront, Took}
use Rattle.command_devices.specs.Writing.{IsCutAfter, IsCutShort}
use Rattle.command_devices.proofs.Devices.{gave_more, took_more}
use Rattle.raw_streams.specs.Streams.{HasRawCube, IsRawRefusal, IsPartRefusal, IsEndRefusal, length_in, most_read}

-- the bytes before a part and those of it are among all
pub part_inside : (l : Layout) (s : Sizes) (part : Part) → IsPart l s part
    → first_sample l s part * l.bytes + part_samples l s part * l.bytes ≤ sample_count s * l.bytes
part_inside l s part within =
    let most : (first_sample l s part + part_samples l s part) * l.bytes ≤ sample_count s * l.bytes =
    mul-le (first_sample l s part + part_samples l s part) l.bytes (sample_count s) l.bytes (part_within l.order s part.first part.count within) (omega arith) in
    omega (arith, most)

-- and these are few
pub part_end : (l : Layout) (s : Sizes) (part : Part) → IsLayout l → IsPart l s part → sample_count s ≤ 2 ^ 48
    → (first_sample l s part * l.bytes + part_samples l s part * l.bytes ≤ sample_count s * l.bytes) × (sample_count s * l.bytes ≤ 2 ^ 49)
part_end l s part layout within few = (part_inside l s part within, product_small l (sample_count s) layout few)

-- ---- what came

pub gave_within : (a b : Option (List ℕ)) (bytes : List ℕ) (limit : ℕ) → Gave a b bytes → length bytes ≤ limit → GaveWithin (λ _. limit) a b
gave_within a b bytes limit gave within before e = let g = gave before e in (bytes, g.0, g.1, g.2, within)

pub within_more : (a b c : Option (List ℕ)) (bytes : List ℕ) (more limit : ℕ) → Gave a b bytes → GaveWithin (λ _. more) b c → length bytes + more ≤ limit
    → GaveWithin (λ _. limit) a c
within_more a b c bytes more limit gave within fits before e =
    let g = gave before e in
    let h = within g.0 g.1 in
    let both = gave_more a b c bytes h.0 gave (λ x f. let (again, there, split) = gave_one x f in (again, there, split)) before e in
    (bytes ++ h.0, both.0, both.1, both.2, omega (arith, length-append bytes h.0, h.4))
  where
    gave_one : (x : List ℕ) → b ≡ Some x → (rest : List ℕ) × (c ≡ Some rest) × (x ≡ (within ((gave before e).0) ((gave before e).1)).0 ++ rest)
    gave_one x f =
        let g = gave before e in
        let h = within g.0 g.1 in
        let same : x ≡ g.0 = cc in
        (h.1, h.2, same ∙ h.3)

pub ended_front : (a b : Option (List ℕ)) (bytes : List ℕ) (limit : ℕ) → Gave a b bytes → IsEnd b → length bytes ≤ limit → IsFront limit a bytes
ended_front a b bytes limit gave end within input e =
    let g = gave input e in
    let none : g.0 ≡ [] = end g.0 g.1 in
    let all : input ≡ bytes = g.2 ∙ ap (λ (xs : List ℕ). bytes ++ xs) none ∙ append-nil bytes in
    rw all (sym (take_all limit bytes within))

pub ended_all : (a b : Option (List ℕ)) (bytes : List ℕ) → Gave a b bytes → IsEnd b → IsAll a bytes
ended_all a b bytes gave end input e =
    let g = gave input e in
    g.2 ∙ ap (λ (xs : List ℕ). bytes ++ xs) (end g.0 g.1) ∙ append-nil bytes

pub full_front : (a b : Option (List ℕ)) (bytes : List ℕ) (limit : ℕ) → Gave a b bytes → length bytes ≡ limit → IsFront limit a bytes
full_front a b bytes limit gave full input e = let g = gave input e in rw g.2 (sym (take_at bytes g.0 limit full))

pub gave_none : (a : Option (List ℕ)) → Gave a a []
gave_none a before e = (before, e, refl)

-- why a part didn't come is why there is no cube
pub part_refused : (s : Sizes) (k : SampleKind) (l : Layout) (part : Part) (a b c : Option (List ℕ)) (bytes : List ℕ) (f0 f1 f2 : ℕ) (fault : Fault)
    → IsPart l s part → Gave a b bytes → length bytes ≡ first_sample l s part * l.bytes → f1 ≡ f0 → IsPartRefusal s l part b c f1 f2 fault
    → IsRawRefusal s k l a f0 f2 fault
part_refused s k l part a b c bytes f0 f1 f2 fault within gave long same (inl (e, rose)) = inl (e, rw same at rose)
part_refused s k l part a b c bytes f0 f1 f2 fault within gave long same (inr (more, came, end, short, worked, e)) =
    let sum : length (bytes ++ more) ≡ first_sample l s part * l.bytes + length more = rw (length-append bytes more, long) refl in
    let inside = part_inside l s part within in
    inr (inr (
      bytes ++ more,
      ended_front a c (bytes ++ more) (most_read s l) (gave_more a b c bytes more gave came) end (omega (arith, sum, short, inside)),
      omega (arith, sum, short, inside),
      inl (e ∙ ap (λ (n : ℕ). RawLength (length_in s l) n) (sym sum), λ all. omega (arith, sum, short, inside, all)),
    ))

-- and why the source isn't at its end
pub end_refused : (s : Sizes) (k : SampleKind) (l : Layout) (a b c : Option (List ℕ)) (bytes : List ℕ) (f0 f1 f2 : ℕ) (fault : Fault)
    → Gave a b bytes → length bytes ≡ length_in s l → f1 ≡ f0 → IsEndRefusal s l b c f1 f2 fault → IsRawRefusal s k l a f0 f2 fault
end_refused s k l a b c bytes f0 f1 f2 fault gave long same (inl (e, rose)) = inl (e, rw same at rose)
end_refused s k l a b c bytes f0 f1 f2 fault gave long same (inr (more, came, one, worked, e)) =
    let sum : length (bytes ++ more) ≡ most_read s l = length-append bytes more ∙ omega (arith, long, one) in
    inr (inr (
      bytes ++ more,
      full_front a c (bytes ++ more) (most_read s l) (gave_more a b c bytes more gave came) sum,
      omega (arith, sum),
      inl (e ∙ ap (λ (n : ℕ). RawLength (length_in s l) n) (sym sum), λ all. omega (arith, sum, all)),
    ))

-- all that came, once the source is at its end
pub all_came : (a b c : Option (List ℕ)) (bytes : List ℕ) → Gave a b bytes → Gave b c [] → Gave a c bytes
all_came a b c bytes gave none = rw append-nil at (gave_more a b c bytes [] gave none)

-- a cube of which all has come is the source's
pub found_cube : (s : Sizes) (k : SampleKind) (l : Layout) (a b : Option (List ℕ)) (bytes : List ℕ) (n : ℕ) (found : Result Image Fault) → IsLayout l
    → 0 < sample_count s → n ≡ sample_count s → Gave a b bytes → IsEnd b → IsFound s k l bytes n found → IfOk found (HasRawCube s k l a)
found_cube s k l a b bytes n found layout some all gave end known = IfOk-weaker found _ (HasRawCube s k l a) each known.cube
  where
    each : (c : Image) → IsCube c × (c.shape ≡ s) × (c.kind ≡ k) × (take (n * l.bytes) (raw_bytes c l) ≡ bytes) × HaveBytes c l n × AreSamples k l bytes n → HasRawCube s k l a c
    each c (cube, shape, kind, raw, have, samples) =
        let some_c : 0 < sample_count c.shape = rw shape some in
        let long : length (raw_bytes c l) ≡ sample_count c.shape * l.bytes = length-raw_bytes c l layout some_c in
        let size : sample_count c.shape ≡ n = rw shape (sym all) in
        let whole : raw_bytes c l ≡ bytes = sym (take_all (n * l.bytes) (raw_bytes c l) (omega (arith, rw size at long))) ∙ raw in
        record { cube = cube; shape = shape; kind = kind; fits = rw size have; all = rw whole (ended_all a b bytes gave end) }

-- and the first bad sample of all is that of the source's bytes
pub found_bad : (s : Sizes) (k : SampleKind) (l : Layout) (a b : Option (List ℕ)) (bytes : List ℕ) (n f0 f1 : ℕ) (found : Result Image Fault)
    → n ≡ sample_count s → Gave a b bytes → IsEnd b → IsFound s k l bytes n found → IfErr found (IsRawRefusal s k l a f0 f1)
found_bad s k l a b bytes n f0 f1 found all gave end known =
    let long : length bytes ≡ length_in s l = rw (← all) known.long in
    IfErr-weaker found _ (IsRawRefusal s k l a f0 f1) (λ e bad. inr (inr (
      bytes,
      ended_front a b bytes (most_read s l) gave end (omega (arith, long)),
      omega (arith, long),
      inr (long, bad),
    ))) known.bad

-- nothing has come yet
pub found_none : (s : Sizes) (k : SampleKind) (l : Layout) (c : Image) (n : ℕ) → n ≡ 0 → IsCube c → c.shape ≡ s → c.kind ≡ k → IsFound s k l [] n (Ok c)
found_none s k l c n none cube shape kind = let size : n * l.bytes ≡ 0 = rw none (omega arith) in record {
  long = sym size;
  cube = (cube, shape, kind, rw size refl, λ j lt. absurd (omega (arith, lt, none)), λ j lt. absurd (omega (arith, lt, none)));
  bad = tt;
}

-- ---- what went out

pub sent_more : (raw bytes : List ℕ) (sent m at : ℕ) (a b c : Option (List ℕ)) → at ≡ sent → length bytes ≡ m → bytes ≡ take m (drop at raw)
    → Took a b (take sent raw) → Took b c bytes → Took a c (take (sent + length bytes) raw)
sent_more raw bytes sent m at a b c at_is long made first second =
    let piece : take (length bytes) (drop sent raw) ≡ bytes = rw long (rw at_is at (sym made)) in
    rw (take-add sent (length bytes) raw, piece) (took_more a b c (take sent raw) bytes first second)

pub part_long : (raw : List ℕ) (m at : ℕ) → at + m ≤ length raw → length (take m (drop at raw)) ≡ m
part_long raw m at fits = omega (arith, length-take m (drop at raw), length-drop at raw)

pub cut_more : (raw bytes : List ℕ) (sent m at : ℕ) (a b c : Option (List ℕ)) (f0 f1 f2 s0 s1 s2 : ℕ) (fault : Fault) → at ≡ sent
    → bytes ≡ take m (drop at raw) → Took a b (take sent raw) → f1 ≡ f0 → s1 ≡ s0 → IsCutAfter sent b c f1 f2 s1 s2 bytes fault
    → IsCutShort a c f0 f2 s0 s2 raw fault
cut_more raw bytes sent m at a b c f0 f1 f2 s0 s1 s2 fault at_is made took f_is s_is (n, e, lt, more, rose) =
    let made_is : bytes ≡ take m (drop sent raw) = rw at_is at made in
    let long : length bytes ≡ length (take m (drop sent raw)) = ap (λ (xs : List ℕ). length xs) made_is in
    let short : n ≤ m = omega (arith, lt, long, length-take m (drop sent raw)) in
    let front : take n bytes ≡ take n (drop sent raw) = ap (λ (xs : List ℕ). take n xs) made_is ∙ take-take n m (drop sent raw) short in (
      sent + n,
      e,
      omega (arith, lt, long, length-take m (drop sent raw), length-drop sent raw),
      rw (take-add sent n raw, ← front) (took_more a b c (take sent raw) (take n bytes) took more),
      rw (f_is, s_is) at rose,
    )
