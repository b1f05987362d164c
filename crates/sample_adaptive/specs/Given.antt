-- The residuals that a coder has decoded of an image's body: the first ones, in encoding order.
use Rattle.std.specs.Prelude.{ℕ, ◌≡◌, ◌^◌, ◌<◌, Bool, List, ◌++◌, length, take, slice_get, Some, Result, Ok, Err, MatchResult}
use Rattle.std.specs.List.{AllByRecursion}
use Rattle.cube_core.specs.declared.fault.Fault.{Fault}
use Rattle.cube_core.specs.declared.order.Place.{Place}
use Rattle.cube_core.specs.Order.{places}
use Rattle.header_bits.specs.declared.params.Params.{Params}
use Rattle.header_bits.specs.Bits.{Unread}
use Rattle.sample_adaptive.specs.Statistics.{CoderSettings}
use Rattle.sample_adaptive.specs.Settings.{IsSample, settings}
use Rattle.sample_adaptive.specs.Body.{band_residuals}
use Rattle.sample_adaptive.specs.Reading.{sample_body_at}
use Rattle.sample_adaptive.specs.Taken.{CoderState, HasTaken}

-- the bits are read as the residuals of places, whatever bits follow
abbrev pub AreRead : CoderSettings → List Place → List ℕ → List Bool → Type 0
AreRead c places residuals bits = (count : ℕ) (left : List Bool) → sample_body_at count c places (bits ++ left) ≡ Ok (residuals, left)

-- the first places in encoding order, as many as there are residuals
abbrev pub places_of : Params → List ℕ → List Place
places_of p residuals = take (length residuals) (places p.shape p.order)

-- the coder has decoded the residuals from the bits
pub record HasGiven (p : Params) (v : CoderState) (residuals : List ℕ) (bits : List Bool) : Type 0 where
  pub coder : IsSample p.coder
  pub bands : length v.bands ≡ p.shape.bands
  pub taken : HasTaken (settings p) v (λ z. band_residuals z (places_of p residuals) residuals)
  pub read : AreRead (settings p) (places_of p residuals) residuals bits

-- the next residual is one of band z, of which t came before
abbrev pub IsNext : Params → List ℕ → ℕ → ℕ → Type 0
IsNext p residuals z t =
    (q : Place) × (slice_get (places p.shape p.order) (length residuals) ≡ Some q) × (q.z ≡ z) × (t ≡ length (band_residuals z (places_of p residuals) residuals))

-- some bits were read, from which the coder decoded the residuals `list`, each below 2^D
abbrev pub GivesAll : Params → List ℕ → List Bool → List Bool → CoderState → List Bool → List ℕ → Type 0
GivesAll p residuals bits unread new left list =
    AllByRecursion (λ n. n < 2 ^ p.kind.bits) list × (read : List Bool) × (unread ≡ read ++ left) × HasGiven p new (residuals ++ list) (bits ++ read)

-- on success the result's residuals were decoded; a refusal is the first fault of the body
abbrev pub GivesMore : {X : Type 0} → (X → List ℕ) → Result X Fault → Params → List ℕ → List Bool → Unread → CoderState → List Bool → Type 0
GivesMore residuals_of result p residuals bits unread new left =
    MatchResult result (λ answer. GivesAll p residuals bits unread.left new left (residuals_of answer))
    (λ fault. sample_body_at unread.count (settings p) (places p.shape p.order) (bits ++ unread.left) ≡ Err fault)
