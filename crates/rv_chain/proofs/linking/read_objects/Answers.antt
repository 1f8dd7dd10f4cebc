use Rattle.std.proofs.Common.{◌≡◌, ◌<◌, ◌∷◌, [], ◌++◌, length, map, take, get_or, sym, subst, ◌+◌, ℕ, List, rules, arith}
use Rattle.std.proofs.lemmas.List.{length-map, map-append}
use Rattle.rv_statement.specs.View.{now_of}
use Rattle.rv_object_types.specs.View.{object_of}
use Rattle.rv_chain_laws.specs.Objects.{IsObjectIn, AreObjectsIn}
use Rattle.rv_chain.specs.LinkRefusals.{IsUnreadAt, AreUnread}
use Rattle.rv_chain.proofs.GatheredLemmas.{err_given, one_more, source_at, take_one_more}
use Rattle.rv_chain.proofs.UnreadLemmas.{unread_in}
use Rattle.rv_chain.proofs.linking.read_objects.Goals as goal

pub returns-in_err-read_object-clause-refuses : goal.returns-in_err-read_object-clause-refuses
returns-in_err-read_object-clause-refuses c =
    let held = map now_of c.args.files.now in
    let i = c.loop-index.index in
    let n : length held ≡ length c.args.files.now = length-map c.args.files.now now_of in
    let inside : i < length held = omega (arith, c.loop-index-test.true, n) in
    let one : IsUnreadAt (i + 1) (get_or held i []) c.in_err-read_object.field-0.0 =
    subst (λ (t : List ℕ). IsUnreadAt (i + 1) t c.in_err-read_object.field-0.0) (sym (source_at c.args.files.now i _ c.loop-index-test.true)) c.in_err-read_object.ensures.refuses in
    err_given c.from_residual.result (AreUnread held) _ c.from_residual.ensures.1
    (λ f is. subst (AreUnread held) (sym is) (unread_in held i (map object_of c.loop-index.objects.items) c.in_err-read_object.field-0.0 inside c.loop-index.invariant one))

pub loop-index-preserved : goal.loop-index-preserved
loop-index-preserved c =
    let held = map now_of c.args.files.now in
    let i = c.loop-index.index in
    let n : length held ≡ length c.args.files.now = length-map c.args.files.now now_of in
    let inside : i < length held = omega (arith, c.loop-index-test.true, n) in
    let o = object_of c.in_ok-read_object.field-0 in
    let one : IsObjectIn (get_or held i []) o =
    subst (λ (t : List ℕ). IsObjectIn t o) (sym (source_at c.args.files.now i _ c.loop-index-test.true)) c.in_ok-read_object.ensures.object in
    let all : AreObjectsIn (take i held ++ get_or held i [] ∷ []) (map object_of c.loop-index.objects.items ++ o ∷ []) =
    one_more IsObjectIn (take i held) (map object_of c.loop-index.objects.items) (get_or held i []) o c.loop-index.invariant one in
    let pushed : c.push.new.self.items ≡ c.loop-index.objects.items ++ c.in_ok-read_object.field-0 ∷ [] = search rules in
    subst (λ (ts : List (List ℕ)). AreObjectsIn ts (map object_of c.push.new.self.items)) (sym (take_one_more held i inside))
    (subst (λ xs. AreObjectsIn (take i held ++ get_or held i [] ∷ []) (map object_of xs)) (sym pushed)
    (subst (λ os. AreObjectsIn (take i held ++ get_or held i [] ∷ []) os) (sym (map-append object_of c.loop-index.objects.items (c.in_ok-read_object.field-0 ∷ []))) all))
