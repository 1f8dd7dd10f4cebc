use Rattle.std.proofs.Common.{inl, inr, ℕ, zero, suc, ◌+◌, ◌≤◌, ◌<◌, false, [], ◌∷◌, slice_index, pos, ◌-ℤ◌, refl, arith}
use Rattle.rv_size_laws.specs.Calls.{Offers, half, bytes_of, site_at, IsClosed, IsText, LeadsOutside, MayShorten, Shortenings, whole_sizes}
use Rattle.rv_size_laws.specs.Steps.{Unchanged, Changes}
use Rattle.rv_size_laws.proofs.ReachingLemmas.{reaches_tested}
use Rattle.rv_size_laws.proofs.ShorteningLemmas.{shortened_greatest}
use Rattle.rv_call_sizes.specs.Worked.{calls_to_f}
use Rattle.rv_call_sizes.proofs.JudgingLemmas.{four_is_shortest}
use Rattle.rv_call_sizes.proofs.law.three_calls.Goals as goal

-- all end before the target
ends : (j : ℕ) → (site_at calls_to_f j).offset + bytes_of (site_at calls_to_f j).kind ≤ 32
ends zero = omega arith
ends (suc zero) = omega arith
ends (suc (suc zero)) = omega arith
ends (suc (suc (suc zero))) = omega arith
ends (suc (suc (suc (suc j)))) = omega arith

text : IsText calls_to_f
text = record { in_order = (omega arith, (omega arith, (omega arith, (omega arith, tt)))); outside = leads }
  where
    leads : (i j : ℕ) → LeadsOutside (site_at calls_to_f i).kind (site_at calls_to_f j)
    leads zero j = tt
    leads (suc zero) j = λ call. inr (ends j)
    leads (suc (suc zero)) j = λ call. inr (ends j)
    leads (suc (suc (suc zero))) j = λ call. inr (ends j)
    leads (suc (suc (suc (suc i)))) j = tt

-- one after the other
first : MayShorten calls_to_f (0 ∷ 8 ∷ 8 ∷ 8 ∷ []) 1 4
first = record { shrinks = omega arith; offered = inr (inl refl); reaching = reaches_tested (half 4) (pos 0) (pos 32 -ℤ pos 0) refl }

second : MayShorten calls_to_f (0 ∷ 4 ∷ 8 ∷ 8 ∷ []) 2 4
second = record { shrinks = omega arith; offered = inr (inl refl); reaching = reaches_tested (half 4) (pos 0) (pos 28 -ℤ pos 4) refl }

third : MayShorten calls_to_f (0 ∷ 4 ∷ 4 ∷ 8 ∷ []) 3 4
third = record { shrinks = omega arith; offered = inr (inl refl); reaching = reaches_tested (half 4) (pos 0) (pos 24 -ℤ pos 8) refl }

shortened : Shortenings calls_to_f (whole_sizes calls_to_f) (0 ∷ 4 ∷ 4 ∷ 4 ∷ []) 3
shortened = Changes (0 ∷ 4 ∷ 4 ∷ 8 ∷ []) 2 3 4 (Changes (0 ∷ 4 ∷ 8 ∷ 8 ∷ []) 1 2 4 (Changes (0 ∷ 8 ∷ 8 ∷ 8 ∷ []) 0 1 4 Unchanged first) second) third

closed : IsClosed calls_to_f (0 ∷ 4 ∷ 4 ∷ 4 ∷ [])
closed = record { family = record { same_length = refl; offered = forms }; closed = none }
  where
    forms : (i : ℕ) → Offers (site_at calls_to_f i).kind (slice_index (0 ∷ 4 ∷ 4 ∷ 4 ∷ []) i)
    forms zero = refl
    forms (suc zero) = inr (inl refl)
    forms (suc (suc zero)) = inr (inl refl)
    forms (suc (suc (suc zero))) = inr (inl refl)
    forms (suc (suc (suc (suc i)))) = refl

    none : (i shorter : ℕ) → MayShorten calls_to_f (0 ∷ 4 ∷ 4 ∷ 4 ∷ []) i shorter → ⊥
    none zero shorter may = let less : shorter < 0 = may.shrinks in omega arith
    none (suc zero) shorter may = four_is_shortest (record { target = 32; addend = pos 0; compressed = false }) refl shorter may.shrinks may.offered
    none (suc (suc zero)) shorter may = four_is_shortest (record { target = 32; addend = pos 0; compressed = false }) refl shorter may.shrinks may.offered
    none (suc (suc (suc zero))) shorter may = four_is_shortest (record { target = 32; addend = pos 0; compressed = false }) refl shorter may.shrinks may.offered
    none (suc (suc (suc (suc i)))) shorter may = let less : shorter < 0 = may.shrinks in omega arith

pub returns : goal.returns
returns c = shortened_greatest calls_to_f text (0 ∷ 4 ∷ 4 ∷ 4 ∷ []) 3 shortened closed
