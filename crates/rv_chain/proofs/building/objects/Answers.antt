use Rattle.std.proofs.Common.{◌≡◌, ◌<◌, ◌∷◌, [], ◌++◌, length, map, take, get_or, sym, subst, ◌+◌, ℕ, List, rules, arith}
use Rattle.std.proofs.lemmas.List.{length-map, map-append}
use Rattle.rv_statement.specs.View.{now_of}
use Rattle.rv_object_types.specs.View.{object_of}
use Rattle.rv_chain_laws.specs.Objects.{IsObjectFrom, AreObjectsFrom}
use Rattle.rv_chain.specs.Refusals.{IsRefusedAt, IsRefusedIn}
use Rattle.rv_chain.proofs.GatheredLemmas.{err_given, one_more, refused_in, source_at, take_one_more}
use Rattle.rv_chain.proofs.building.objects.Goals as goal

pub returns-in_err-object-clause-refuses : goal.returns-in_err-object-clause-refuses
returns-in_err-object-clause-refuses c =
    let texts = map now_of c.args.sources.now in
    let i = c.loop-index.index in
    let n : length texts ≡ length c.args.sources.now = length-map c.args.sources.now now_of in
    let inside : i < length texts = omega (arith, c.loop-index-test.true, n) in
    let one : IsRefusedAt (i + 1) (get_or texts i []) c.in_err-object.field-0.0 =
    subst (λ (t : List ℕ). IsRefusedAt (i + 1) t c.in_err-object.field-0.0) (sym (source_at c.args.sources.now i _ c.loop-index-test.true)) c.in_err-object.ensures.refuses in
    err_given c.from_residual.result (IsRefusedIn texts) _ c.from_residual.ensures.1
    (λ f is. subst (IsRefusedIn texts) (sym is) (refused_in texts i (map object_of c.loop-index.objects.items) c.in_err-object.field-0.0 inside c.loop-index.invariant one))

pub loop-index-preserved : goal.loop-index-preserved
loop-index-preserved c =
    let texts = map now_of c.args.sources.now in
    let i = c.loop-index.index in
    let n : length texts ≡ length c.args.sources.now = length-map c.args.sources.now now_of in
    let inside : i < length texts = omega (arith, c.loop-index-test.true, n) in
    let o = object_of c.in_ok-object.field-0 in
    let one : IsObjectFrom (get_or texts i []) o =
    subst (λ (t : List ℕ). IsObjectFrom t o) (sym (source_at c.args.sources.now i _ c.loop-index-test.true)) c.in_ok-object.ensures.object in
    let all : AreObjectsFrom (take i texts ++ get_or texts i [] ∷ []) (map object_of c.loop-index.objects.items ++ o ∷ []) =
    one_more IsObjectFrom (take i texts) (map object_of c.loop-index.objects.items) (get_or texts i []) o c.loop-index.invariant one in
    let pushed : c.push.new.self.items ≡ c.loop-index.objects.items ++ c.in_ok-object.field-0 ∷ [] = search rules in
    subst (λ (ts : List (List ℕ)). AreObjectsFrom ts (map object_of c.push.new.self.items)) (sym (take_one_more texts i inside))
    (subst (λ xs. AreObjectsFrom (take i texts ++ get_or texts i [] ∷ []) (map object_of xs)) (sym pushed)
    (subst (λ os. AreObjectsFrom (take i texts ++ get_or texts i [] ∷ []) os) (sym (map-append object_of c.loop-index.objects.items (c.in_ok-object.field-0 ∷ []))) all))
