-- What a decoder finds, read as a file or as its first fault.
use Rattle.std.proofs.Common.{◌≡◌, ◌⊎◌, ℕ, Bool, List, ◌++◌, length, Result, Ok, Err, IfErr, IsErrAnd, refl, sym, ◌∙◌, inl, inr, append_assoc}
use Rattle.cube_core.specs.declared.fault.Fault.{Fault}
use Rattle.cube_core.specs.declared.fault.Fault.TheVariants.{WantOfMemory}
use Rattle.cube_core.specs.Image.{Image}
use Rattle.header_bits.specs.declared.params.Params.{Params}
use Rattle.header_bits.specs.Bits.{bits_of_bytes}
use Rattle.header_bits.specs.Parts.{fine}
use Rattle.header_bits.specs.Lawful.{IsLawful}
use Rattle.header_bits.specs.Header.{header_at, SpellsHeader, BeginsWithTable}
use Rattle.header_bits.proofs.SpeltLawful.{spelt_is_lawful}
use Rattle.file_decoding.specs.Decoding.{TakesCube, AnswersOr, IsNoFile, IsRefusal, ReadsFile}
use Rattle.file_format.specs.Files.{IsFile, after_body, fill_test, body_test, head_at, file_test}
use Rattle.file_format.specs.MinimumLength.{minimum_length_test}
use Rattle.file_format.proofs.FileLaws.{body_of_cube, after_again, file_is_fine, one_file, whole_file}

-- ---- a refusal is the file's first fault

-- what is answered where a call fails
pub told : (bytes : List ℕ) (r : Result (Params × Image) Fault) (e : Fault) → IsErrAnd r (λ y. y ≡ e) → IsRefusal (bits_of_bytes bytes) e → ReadsFile bytes r
told bytes (Ok found) e h refusal = absurd h
told bytes (Err y) e h refusal = record { lawful = tt; file = tt; refused = rw h refusal }

head_refused : (bits : List Bool) (e : Fault) → head_at bits ≡ Err e → file_test bits ≡ Err e
unfolding file_test
head_refused bits e h = rw h refl

header_refused : (bits : List Bool) (e : Fault) → header_at bits ≡ Err e → head_at bits ≡ Err e
unfolding head_at
header_refused bits e h = rw h refl

-- a header wasn't read
pub stopped : (bits : List Bool) (e : Fault) → (header_at bits ≡ Err e) ⊎ ((e ≡ WantOfMemory) × BeginsWithTable bits) → IsRefusal bits e
stopped bits e (inl h) = inl (head_refused _ _ (header_refused _ _ h))
stopped bits e (inr (w, table)) = inr (w, inl table)

module _ (bits : List Bool) (p : Params) (left : List Bool) (e : Fault) (header : header_at bits ≡ Ok (p, left)) where
  -- fewer bits are left than every body has
  pub short_refused : Err e ≡ minimum_length_test (length bits) p left → IsRefusal bits e
  unfolding file_test head_at
  short_refused short = inl (rw (header, ← short) refl)

  -- a body wasn't read
  pub body_refused : fine ≡ minimum_length_test (length bits) p left → (e ≡ WantOfMemory) ⊎ (after_body (length bits) p left ≡ Err e) → IsRefusal bits e
  unfolding file_test head_at body_test
  body_refused enough (inl w) = inr (w, inr ((p, left), rw (header, ← enough) refl))
  body_refused enough (inr b) = inl (rw (header, ← enough, b) refl)

  pub fill_refused : fine ≡ minimum_length_test (length bits) p left → (c : Image) (fill : List Bool) → IsLawful p → TakesCube p c left fill
      → Err e ≡ fill_test p.word fill → IsRefusal bits e
  unfolding file_test head_at body_test
  fill_refused enough c fill lawful t f =
      let body = after_again p lawful (length bits) _ t.body fill (body_of_cube p lawful c t.body t.cube t.coded) in
      inl (rw (header, ← enough, t.text, body, ← f) refl)

-- ---- if nothing is refused, the bytes are a file

pub found_file : (bytes : List ℕ) (p : Params) (c : Image) (rest left : List Bool) → header_at (bits_of_bytes bytes) ≡ Ok (p, rest)
    → TakesCube p c rest left → fill_test p.word left ≡ fine → IsFile bytes p c
found_file bytes p c rest left header t f = whole_file bytes p c rest left t.body header t.cube t.coded t.text f

-- ---- and of nothing else

no_file : (bytes : List ℕ) (e : Fault) → file_test (bits_of_bytes bytes) ≡ Err e → IsNoFile bytes
no_file bytes e t p c f = absurd (let both = sym (file_is_fine bytes p c (spelt_is_lawful _ _ f.spelt) f) ∙ t in cc)

pub only_one : (bytes : List ℕ) (r : Result (Params × Image) Fault) → ReadsFile bytes r → (p : Params) (c : Image) → IsFile bytes p c → AnswersOr r p c
only_one bytes (Ok found) h p c f = one_file bytes found.0 p found.1 c h.lawful h.file f
only_one bytes (Err e) h p c f = elim h.refused [ inl t ↦ absurd (no_file _ _ t p c f) | inr (w, cause) ↦ w ]

pub head_first : (bytes : List ℕ) (r : Result (Params × Image) Fault) → ReadsFile bytes r → (e : Fault) → head_at (bits_of_bytes bytes) ≡ Err e
    → (r ≡ Err e) ⊎ ((r ≡ Err WantOfMemory) × BeginsWithTable (bits_of_bytes bytes))
head_first bytes (Ok found) h e bad = absurd (no_file _ e (head_refused _ _ bad) _ _ h.file)
head_first bytes (Err d) h e bad = elim h.refused [
  | inl t ↦ inl (let same = sym t ∙ head_refused _ _ bad in cc)
  | inr (w, inl table) ↦ inr (cc, table)
  | inr (w, inr (x, head)) ↦ absurd (cc)
]

-- a header with a fault isn't read as one with tables
pub header_first : (bytes : List ℕ) (r : Result (Params × Image) Fault) → ReadsFile bytes r → (e : Fault) → header_at (bits_of_bytes bytes) ≡ Err e → r ≡ Err e
header_first bytes r h e bad = elim (head_first bytes r h e (header_refused _ _ bad)) [
  | inl same ↦ same
  | inr (w, (x, header, t)) ↦ absurd (let both = sym header ∙ bad in cc)
]

pub none_else : (bytes : List ℕ) (r : Result (Params × Image) Fault) → ReadsFile bytes r → IfErr r (λ e. (e ≡ WantOfMemory) ⊎ IsNoFile bytes)
none_else bytes (Ok found) h = tt
none_else bytes (Err e) h = elim h.refused [ inl t ↦ inr (no_file _ _ t) | inr (w, cause) ↦ inl w ]
