use Rattle.std.proofs.Common.{◌≡◌, ◌∙◌, ◌⊎◌, inl, inr, ⊎_elim, ℕ, ◌<◌, ◌^◌, List, length, Option, Some, None, sym, ap, subst}
use Rattle.std.proofs.lemmas.Result.{err_from_is_err_and}
use Rattle.std.specs.Prelude.{IfNone}
use Rattle.rv_list_laws.proofs.OptionsLemmas.{of_if_some}
use Rattle.rv_debug_laws.specs.Carried.{with_objects}
use Rattle.rv_debug_laws.specs.CarriedNames.{carried_names}
use Rattle.rv_debug_laws.specs.declared.carried.Carried.{Carried}
use Rattle.rv_debug_laws.specs.CarriedFile.{IsCarriedFile, carried_file, carried_end, headers_of, own_sections, strings_of}
use Rattle.rv_debug_sections.specs.Bounds.{AreInBounds}
use Rattle.rv_debug_sections.specs.Views.{all_merged, all_names}
use Rattle.rv_debug_sections.proofs.writing.with_named_sections.Goals as goal

pub returns-clause-written : goal.returns-clause-written
returns-clause-written c =
    let at = c.in-Some.ensures.file in
    let ms = all_merged c.as_slice.result.now in
    let view = c.in-Some.view.file.now in
    let found = of_if_some (λ new. AreInBounds view ms × (new.items ≡ carried_file view ms)) _ c.in-Some-2.new c.in-Some-2.is c.in_ok-new.ensures.some in
    record {
      merged = ms;
      opens = c.in-Some.ensures.opens;
      named = c.in-Some.ensures.named;
      all = ap (with_objects c.args.objects.now) (sym (c.in_ok-merged.ensures ∙ ap (λ f. own_sections f (all_names c.args.names.now)) at ∙ ap (own_sections c.args.file.now) c.requires))
          ∙ c.in_ok-put_objects.ensures.grown ∙ ap (λ l. Some (all_merged l)) (sym c.as_slice.ensures.value);
      few = subst (λ f. length (headers_of f ms) < 0xFF00) at found.0.few;
      low = subst (λ f. carried_end f ms < 2 ^ 63) at found.0.low;
      short = subst (λ f. length (strings_of f ms) < 2 ^ 32) at found.0.short;
      is = found.1 ∙ ap (λ f. carried_file f ms) at;
    }

pub returns-clause-loaded : goal.returns-clause-loaded
returns-clause-loaded c = c.carried_file_is_loaded.ensures _ _ _ (returns-clause-written c)

-- where no such merged sections are, there is no such file
none_made : (file : List ℕ) (objects : List Carried) → with_objects objects (own_sections file (carried_names objects)) ≡ None → (new : List ℕ) → IsCarriedFile file objects new → ⊥
none_made file objects none new h = let some = h.all in absurd (cc)

pub returns-in_err-put_objects-clause-refuses : goal.returns-in_err-put_objects-clause-refuses
returns-in_err-put_objects-clause-refuses c =
    let at = c.in-Some.ensures.file in
    let own = c.in_ok-merged.ensures ∙ ap (λ f. own_sections f (all_names c.args.names.now)) at ∙ ap (own_sections c.args.file.now) c.requires in
    let p = err_from_is_err_and c.from_residual-in_err-put_objects.result c.from_residual-in_err-put_objects.ensures.1 in
    rw (p.1, p.2) (⊎_elim inl (λ none. inr (none_made c.args.file.now c.args.objects.now (ap (with_objects c.args.objects.now) (sym own) ∙ none))) c.in_err-put_objects.ensures.refuses)

pub returns-in_default-2-clause-refuses : goal.returns-in_default-2-clause-refuses
returns-in_default-2-clause-refuses c = inr (λ new h.
    let at = c.in-Some.ensures.file in
    let ms = all_merged c.as_slice.result.now in
    let own = c.in_ok-merged.ensures ∙ ap (λ f. own_sections f (all_names c.args.names.now)) at ∙ ap (own_sections c.args.file.now) c.requires in
    let grown : with_objects c.args.objects.now (own_sections c.args.file.now (carried_names c.args.objects.now)) ≡ Some ms =
    ap (with_objects c.args.objects.now) (sym own) ∙ c.in_ok-put_objects.ensures.grown ∙ ap (λ l. Some (all_merged l)) (sym c.as_slice.ensures.value) in
    let same : h.merged ≡ ms = let is = h.all in cc in
    let f = c.args.file.now in
    let bounds : AreInBounds f ms = subst (AreInBounds f) same (record { few = h.few; low = h.low; short = h.short }) in
    let view = c.in-Some.view.file.now in
    let refused : AreInBounds view ms → ⊥ = subst (λ o. IfNone o (AreInBounds view ms → ⊥)) c.in_default-2.is c.in_ok-new.ensures.none in
    refused (subst (λ l. AreInBounds l ms) (sym at) bounds))
