-- Senders take lists one after another. It stands among the definitions since an implementation states its laws by them alone.
use Rattle.std.proofs.Common.{◌≡◌, ◌+◌, ℕ, Bool, true, false, List, [], ◌++◌, length, refl, sym, ap, ◌∙◌, append-nil, append_assoc}
use Rattle.std.proofs.Common.{length-append, arith}
use Rattle.std.proofs.lemmas.List.{nil_from_length}
use Rattle.lane_workers.specs.Runs.{RunSending}
use Rattle.coder_pipe.specs.Sends.{Sends, MaySend}
use Rattle.file_encoding.specs.Takings.{AreTakings}

module _ {G : Type 0} where
  whole_taken : (old new : RunSending G) (list : List ℕ) → Sends old new true list → old.taken ++ list ≡ new.taken
  whole_taken old new list h = h.taken ∙ ap (λ rest. new.taken ++ rest) (nil_from_length h.rest (h.whole refl).0) ∙ append-nil new.taken

  sends_less : (s : RunSending G) (xs ys : List ℕ) → MaySend s (xs ++ ys) → MaySend s xs
  sends_less s xs ys h = record { ready = h.ready; few = omega (arith, h.few, length-append xs ys) }

  sends_more : (old new : RunSending G) (xs ys : List ℕ) → Sends old new true xs → MaySend old (xs ++ ys) → MaySend new ys
  sends_more old new xs ys a h =
      let had : length old.taken + length xs ≡ length new.taken = sym (length-append old.taken xs) ∙ ap (λ (v : List ℕ). length v) (whole_taken old new xs a) in
      record { ready = (a.whole refl).1; few = omega (arith, had, h.few, length-append xs ys) }

  sends_none : (s : RunSending G) → MaySend s [] → Sends s s true []
  sends_none s h = record { lane = refl; predictor = refl; gate = refl; rest = []; taken = refl; whole = λ e. (refl, h.ready); stopped = λ e. absurd (cc) }

  sends_append : (old mid new : RunSending G) (all : Bool) (xs ys : List ℕ) → Sends old mid true xs → Sends mid new all ys → Sends old new all (xs ++ ys)
  sends_append old mid new all xs ys a b = record {
    lane = b.lane ∙ a.lane;
    predictor = b.predictor ∙ a.predictor;
    gate = b.gate ∙ a.gate;
    rest = b.rest;
    taken = sym (append_assoc old.taken xs ys) ∙ ap (λ ns. ns ++ ys) (whole_taken old mid xs a) ∙ b.taken;
    whole = b.whole;
    stopped = b.stopped;
  }

  -- one that was stopped doesn't care what comes after
  sends_cut : (old new : RunSending G) (xs ys : List ℕ) → Sends old new false xs → Sends old new false (xs ++ ys)
  sends_cut old new xs ys a = record {
    lane = a.lane;
    predictor = a.predictor;
    gate = a.gate;
    rest = a.rest ++ ys;
    taken = sym (append_assoc old.taken xs ys) ∙ ap (λ ns. ns ++ ys) a.taken ∙ append_assoc new.taken a.rest ys;
    whole = λ h. absurd (cc);
    stopped = a.stopped;
  }

  pub sendings_are : AreTakings {S = RunSending G} (λ s list. MaySend s list) (λ old new all list. Sends old new all list)
  sendings_are = record { less = sends_less; more = sends_more; none = sends_none; append = sends_append; cut = sends_cut }
