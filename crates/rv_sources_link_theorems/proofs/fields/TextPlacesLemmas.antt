-- Where the places of objects and the aims of sources stand in the line of text, and how far past the ends of their sections.

use Rattle.std.proofs.Common.{◌≡◌, ℕ, Bool, true, false, Option, Some, None, option_map, List, refl, ap, ◌∙◌}
use Rattle.std.specs.Prelude.{if◌then◌else◌, option_and_then}
use Rattle.rv_source_laws.specs.Shortened.{Placed, Aim, aim_offset}
use Rattle.rv_link_laws.specs.CallSites.{is_text_place, text_offset, excess}
use Rattle.rv_link_laws.specs.Names.{Place}
use Rattle.rv_object_laws.specs.Object.{Object}

abbrev pub stands_in : List Object → Option Place → Option (ℕ × ℕ)
stands_in os place = if is_text_place os place then Some (text_offset os place, excess os place) else None

-- what a source aims at stands in its section
abbrev pub at_place : ℕ → ℕ × ℕ
at_place n = (n, 0)

abbrev pub aim_at : List Placed → Aim → Option (ℕ × ℕ)
aim_at text a = option_map at_place (aim_offset text a)

aimed_is : (text : List Placed) (o : Option Aim) → option_and_then (aim_at text) o ≡ option_map at_place (option_and_then (aim_offset text) o)
aimed_is text None = refl
aimed_is text (Some a) = refl

both_stand : (b : Bool) (n e : ℕ) (o : Option ℕ) → (if b then Some (n, e) else None) ≡ option_map at_place o → ((if b then Some n else None) ≡ o) × (b ≡ true → e ≡ 0)
both_stand true n e None h = absurd (cc)
both_stand true n e (Some m) h =
    let same : ◌≡◌ {A = ℕ × ℕ} (n, e) (m, 0) = (let t : ◌≡◌ {A = Option (ℕ × ℕ)} (Some (n, e)) (Some (m, 0)) = h in cc) in
    (ap (λ (p : ℕ × ℕ). Some p.0) same, λ is. ap (λ (p : ℕ × ℕ). p.1) same)
both_stand false n e None h = (refl, λ is. absurd (cc))
both_stand false n e (Some m) h = absurd (cc)

module _ (os : List Object) (text : List Placed) (place : Option Place) (o : Option Aim) (h : stands_in os place ≡ option_and_then (aim_at text) o) where
  parts : ((if is_text_place os place then Some (text_offset os place) else None) ≡ option_and_then (aim_offset text) o) × (is_text_place os place ≡ true → excess os place ≡ 0)
  parts = both_stand (is_text_place os place) (text_offset os place) (excess os place) (option_and_then (aim_offset text) o) (h ∙ aimed_is text o)

  pub offset_same : (if is_text_place os place then Some (text_offset os place) else None) ≡ option_and_then (aim_offset text) o
  offset_same = parts.0

  pub no_excess : is_text_place os place ≡ true → excess os place ≡ 0
  no_excess = parts.1
