-- Some bands that advance by the same piece, one after another.
use Rattle.std.proofs.Common.{◌≡◌, ◌+◌, ◌<◌, ◌≤◌, ℕ, List, [], ◌∷◌, ◌++◌, length, take, drop, get_or, set, sym, ap, ◌∙◌}
use Rattle.std.proofs.Common.{get_or-drop, take-add, take_all, arith}
use Rattle.std.specs.List.{AllZip}
use Rattle.std.proofs.lemmas.List.{take_more_set, drop_more, drop-set-lt, drop-drop}
use Rattle.cube_core.specs.Image.{Image}
use Rattle.predict_core.specs.Following.{PredictorState, HoldsPiece}

zip_append : {A B : Type 0} (R : A → B → Type 0) (xs vs : List A) (ys ws : List B) → AllZip R xs ys → AllZip R vs ws → AllZip R (xs ++ vs) (ys ++ ws)
zip_append R [] vs [] ws h k = k
zip_append R [] vs (y ∷ ys) ws h k = absurd h
zip_append R (x ∷ xs) vs [] ws h k = absurd h
zip_append R (x ∷ xs) vs (y ∷ ys) ws h k = (h.0, zip_append R xs vs ys ws h.1 k)

-- the first i bands have advanced, and the others are as they were
pub record HeldUpTo (c : Image) (n i : ℕ) (was bands : List PredictorState) : Type 0 where
  pub done : AllZip (HoldsPiece c n) (take i was) (take i bands)
  pub left : drop i bands ≡ drop i was

-- one more
pub held_step : (c : Image) (n i : ℕ) (was bands : List PredictorState) (b d : PredictorState) → i < length bands → HeldUpTo c n i was bands
    → HoldsPiece c n (get_or bands i b) d → HeldUpTo c n (i + 1) was (set bands i d)
held_step c n i was bands b d lt h piece =
    let rest : drop i was ≡ get_or bands i b ∷ drop (i + 1) bands = sym h.left ∙ drop_more bands i b lt in
    let one : take 1 (drop i was) ≡ get_or bands i b ∷ [] = ap (λ (bs : List PredictorState). take 1 bs) rest in
    let old : take (i + 1) was ≡ take i was ++ get_or bands i b ∷ [] = take-add i 1 was ∙ ap (λ bs. take i was ++ bs) one in
    record {
      done = rw (old, take_more_set bands i d lt) (zip_append (HoldsPiece c n) (take i was) _ (take i bands) _ h.done (piece, tt));
      left = drop-set-lt (i + 1) bands i d (omega arith) ∙ sym (ap (λ (bs : List PredictorState). drop 1 bs) rest) ∙ drop-drop 1 i was;
    }

-- in the end all of them have
pub all_held : (c : Image) (n i : ℕ) (was bands : List PredictorState) → HeldUpTo c n i was bands → length bands ≡ length was → length was ≤ i
    → AllZip (HoldsPiece c n) was bands
all_held c n i was bands h same le =
    rw (take_all i was le, take_all i bands (omega (arith, same, le))) at h.done

-- the next band is as it was
pub next_is : (c : Image) (n i : ℕ) (was bands : List PredictorState) (b : PredictorState) → HeldUpTo c n i was bands → get_or bands i b ≡ get_or was i b
next_is c n i was bands b h =
    let at : i + 0 ≡ i = omega arith in
    ap (λ k. get_or bands k b) (sym at) ∙ sym (get_or-drop i bands 0 b) ∙ ap (λ bs. get_or bs 0 b) h.left ∙ get_or-drop i was 0 b ∙ ap (λ k. get_or was k b) at
