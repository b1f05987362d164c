-- What is kept of bands, and their statistics.
use Rattle.std.proofs.Common.{◌≡◌, ◌<◌, ◌≤◌, ℕ, List, length, set, refl, sym, ap, subst, ◌∙◌, inl, inr, arith}
use Rattle.std.proofs.lemmas.Bool.{cases_eq}
use Rattle.std.proofs.lemmas.List.{get_or-map, get_or-set_same, get_or-set_other, length-map, length-set, map-set, set-get_or}
use Rattle.sample_adaptive.specs.declared.code_settings.CodeSettings.{CodeSettings}
use Rattle.sample_adaptive.specs.declared.statistics.Statistics.{Statistics}
use Rattle.sample_adaptive.specs.declared.band_state.BandState.{BandState}
use Rattle.sample_adaptive.specs.Taken.{CoderState, HasSettings, of_band, no_statistics, with_band}
use Rattle.sample_adaptive.specs.BandStates.{IsBandState, AreBandStates, state_of, no_state, statistics_of}

pub statistics_count : (bands : List BandState) → length (statistics_of bands) ≡ length bands
statistics_count bands = length-map bands (λ (t : BandState). t.statistics)

pub statistics_at : (bands : List BandState) (z : ℕ) → z < length bands → of_band (statistics_of bands) z ≡ (state_of bands z).statistics
statistics_at bands z lt = get_or-map (λ (t : BandState). t.statistics) bands z no_state no_statistics lt

pub statistics_set : (bands : List BandState) (z : ℕ) (t : BandState) → statistics_of (set bands z t) ≡ set (statistics_of bands) z t.statistics
statistics_set bands z t = map-set (λ (t : BandState). t.statistics) bands z t

-- bands whose statistics a coder has, and what is kept of one of them anew
pub column_set : (v : CoderState) (bands : List BandState) {z b : ℕ} (t : BandState) → z ≡ b
    → with_band (record v { bands = statistics_of bands }) b t.statistics ≡ record v { bands = statistics_of (set bands z t) }
column_set v bands {b = b} t same = rw (same, statistics_set bands b t) refl

-- what is kept of one band anew, where its statistics are the same
pub same_statistics : (bands : List BandState) (at : ℕ) (t : BandState) → t.statistics ≡ (state_of bands at).statistics
    → statistics_of (set bands at t) ≡ statistics_of bands
same_statistics bands at t same = rw (statistics_set bands at t, same, ← statistics_set bands at (state_of bands at), set-get_or) refl

-- what is kept of one band anew
pub state_set : (settings : CodeSettings) (bands : List BandState) (at : ℕ) (t : BandState) → at < length bands → IsBandState settings t → AreBandStates settings bands
    → AreBandStates settings (set bands at t)
state_set settings bands at t inside here was b lt =
    elim (cases_eq b at) [
      | inl e ↦ subst (λ (k : ℕ). IsBandState settings (state_of (set bands at t) k)) (sym e)
          (subst (IsBandState settings) (sym (get_or-set_same bands at t no_state inside)) here)
      | inr other ↦ subst (IsBandState settings) (sym (get_or-set_other bands at b t no_state other)) (was b (omega (arith, lt, length-set bands at t)))
    ]

-- other statistics leave the settings
pub settings_stay : {v : CoderState} {bands : List Statistics} {bits umax size : ℕ} → HasSettings v bits umax size
    → HasSettings (record v { bands = bands }) bits umax size
settings_stay h = record { bits_are = h.bits_are; umax_is = h.umax_is; size_is = h.size_is }

-- ---- a band of a coder that shows the statistics of what it keeps

pub settings_seen : (v w : CoderState) → w ≡ v → HasSettings v w.bits w.umax w.gamma_star
settings_seen v w e = rw (← e) (record { bits_are = refl; umax_is = refl; size_is = refl })

pub bands_seen : {v w : CoderState} → w ≡ v → w.bands ≡ v.bands
bands_seen e = ap (λ (w : CoderState). w.bands) e

module _ (v : CoderState) (items : List BandState) (same : statistics_of items ≡ v.bands) (z : ℕ) (lt : z < length v.bands) where
  pub band_inside : z < length items
  band_inside = omega (arith, lt, ap length same, statistics_count items)

  pub band_own : (t : BandState) → t ≡ state_of items z → of_band v.bands z ≡ t.statistics
  band_own t is = rw (← same) (statistics_at items z band_inside) ∙ ap (λ (k : BandState). k.statistics) (sym is)

  -- what is kept of it, and what is kept of it anew
  module _ (settings : CodeSettings) (was : AreBandStates settings items) (t : BandState) where
    pub state_own : t ≡ state_of items z → IsBandState settings t
    state_own is = subst (IsBandState settings) (sym is) (was z band_inside)

    pub state_anew : IsBandState settings t → AreBandStates settings (set items z t)
    state_anew here = state_set settings items z t band_inside here was

  pub count_stays : (t : BandState) → length (statistics_of (set items z t)) ≡ length v.bands
  count_stays t = omega (arith, statistics_count (set items z t), length-set items z t, statistics_count items, ap length same)

-- others in the place of all of them
module _ (v : CoderState) (items : List BandState) (same : statistics_of items ≡ v.bands) where
  pub bands_hold : (n : ℕ) → n ≤ length v.bands → n ≤ length items
  bands_hold n le = omega (arith, le, ap length same, statistics_count items)

  pub bands_count : (new : List BandState) → length new ≡ length items → length (statistics_of new) ≡ length v.bands
  bands_count new long = omega (arith, statistics_count new, statistics_count items, ap length same, long)
