-- What a call's size becomes at a distance, and what that says of the family.

use Rattle.std.proofs.Common.{◌≡◌, ◌↔◌, inl, inr, ⊎_elim, ℕ, ◌<◌, ◌≤◌, Bool, true, false, IsTrue, List, set, slice_index, ℤ, pos, ◌-ℤ◌, refl, ap, subst, sym, ◌∙◌, arith}
use Rattle.std.proofs.lemmas.List.{set-get_or}
use Rattle.rv_size_laws.specs.declared.site.Site.{Site}
use Rattle.rv_size_laws.specs.declared.site.Call.{Call as CallSite}
use Rattle.rv_size_laws.specs.declared.site.SiteKind.TheVariants.{Call}
use Rattle.rv_size_laws.specs.Offsets.{Reaches}
use Rattle.rv_size_laws.specs.Steps.{Changed, Kept}
use Rattle.rv_size_laws.specs.Calls.{Offers, half, site_at, new_offset, ReachesFrom, IsFamily, MayShorten}
use Rattle.rv_call_sizes.specs.Passes.{HasForm, MayTake, IsJudged, CannotShrink, IsTurn, IsVisit}

-- ---- a call

pub taken : (call : CallSite) (away : ℤ) (size shorter : ℕ) (addend distance : ℤ) (r : Bool) → shorter < size → HasForm call shorter → addend ≡ call.addend → distance ≡ away
    → IsTrue r ↔ Reaches (half shorter) addend distance → IsTrue r ↔ MayTake call away size shorter
taken call away size shorter addend distance r less form a d t = (
  λ h. record { shrinks = less; offered = form; reaching = subst (λ z. Reaches (half shorter) z away) a (subst (Reaches (half shorter) addend) d (t.0 h)) },
  λ may. t.1 (subst (λ z. Reaches (half shorter) z distance) (sym a) (subst (Reaches (half shorter) call.addend) (sym d) may.reaching)),
)

pub four_is_shortest : (call : CallSite) → call.compressed ≡ false → CannotShrink call 4
four_is_shortest call not shorter lt form = ⊎_elim (λ a. omega arith) (λ b. ⊎_elim (λ c. omega arith) (λ d. let is : call.compressed ≡ true = d.1 in cc) b) form

-- ---- a site

may_shorten : (sites : List Site) (kept : List ℕ) (i : ℕ) (call : CallSite) (away : ℤ) (shorter : ℕ) → (site_at sites i).kind ≡ Call call
    → away ≡ pos (new_offset sites kept call.target) -ℤ pos (new_offset sites kept (site_at sites i).offset) → MayTake call away (slice_index kept i) shorter → MayShorten sites kept i shorter
may_shorten sites kept i call away shorter is e may = record {
  shrinks = may.shrinks;
  offered = subst (λ kind. Offers kind shorter) (sym is) may.offered;
  reaching = subst (λ kind. ReachesFrom sites kept (site_at sites i).offset kind shorter) (sym is) (subst (Reaches (half shorter) call.addend) e may.reaching);
}

may_take : (sites : List Site) (kept : List ℕ) (i : ℕ) (call : CallSite) (away : ℤ) (shorter : ℕ) → (site_at sites i).kind ≡ Call call
    → away ≡ pos (new_offset sites kept call.target) -ℤ pos (new_offset sites kept (site_at sites i).offset) → MayShorten sites kept i shorter → MayTake call away (slice_index kept i) shorter
may_take sites kept i call away shorter is e may =
    let there : ReachesFrom sites kept (site_at sites i).offset (Call call) shorter = subst (λ kind. ReachesFrom sites kept (site_at sites i).offset kind shorter) is may.reaching in
    record {
      shrinks = may.shrinks;
      offered = subst (λ kind. Offers kind shorter) is may.offered;
      reaching = subst (Reaches (half shorter) call.addend) (sym e) there;
    }

pub turn_call : (sites : List Site) (kept : List ℕ) (i : ℕ) (call : CallSite) (away : ℤ) (new : ℕ) → (site_at sites i).kind ≡ Call call
    → away ≡ pos (new_offset sites kept call.target) -ℤ pos (new_offset sites kept (site_at sites i).offset) → IsJudged call away (slice_index kept i) new → IsTurn sites kept i new
turn_call sites kept i call away new is e judged = elim judged [
  | inl same ↦ inl (same.0, λ shorter may. same.1 shorter (may_take sites kept i call away shorter is e may))
  | inr may ↦ inr (may_shorten sites kept i call away new is e may)
]

pub turn_offered : (sites : List Site) (kept : List ℕ) (i new : ℕ) → IsFamily sites kept → IsTurn sites kept i new → Offers (site_at sites i).kind new
turn_offered sites kept i new f turn = elim turn [
  | inl same ↦ subst (Offers (site_at sites i).kind) (sym same.0) (f.offered i)
  | inr may ↦ may.offered
]

pub turn_visit : (sites : List Site) (kept : List ℕ) (i new : ℕ) → IsTurn sites kept i new → (told : Bool) → (told ≡ true → new < slice_index kept i) → (told ≡ false → slice_index kept i ≤ new)
    → IsVisit sites i kept (set kept i new) told
turn_visit sites kept i new turn true down up =
    let shrinks : new < slice_index kept i = down refl in
    elim turn [
      | inl same ↦ let is : new ≡ slice_index kept i = same.0 in absurd (omega arith)
      | inr may ↦ Changed new may
    ]
turn_visit sites kept i new turn false down up =
    let most : slice_index kept i ≤ new = up refl in
    elim turn [
      | inl same ↦ subst (λ now. IsVisit sites i kept now false) (sym (ap (set kept i) same.0 ∙ set-get_or kept i 0)) (Kept same.1)
      | inr may ↦ let shrinks : new < slice_index kept i = may.shrinks in absurd (omega arith)
    ]
