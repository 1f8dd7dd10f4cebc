use Rattle.std.proofs.Common.{◌≡◌, ◌≤◌, ◌+◌, ◌++◌, ◌∷◌, map, drop, get_or, sym, ap, ◌∙◌, subst}
use Rattle.rv_list_laws.proofs.MapLemmas.{drop_map_or}
use Rattle.rv_draft.specs.declared.field.OpenField.{OpenField}
use Rattle.rv_draft.specs.Draft.{field_of}
use Rattle.rv_assemble_laws.specs.Fields.{Field}
use Rattle.rv_assemble.specs.Making.{next_of, indices_of}
use Rattle.rv_assemble.proofs.IndicesSoFarLemmas.{indices_more, next_within}
use Rattle.rv_assemble.proofs.indices.indices.Goals as goal

pub loop-index-preserved : goal.loop-index-preserved
loop-index-preserved c =
    let i = c.loop-index.index in
    let fs = c.args.fields.now in
    let first = c.index-fields-index-in-loop-index.result in
    let item = c.index-fields-index.result in
    let f = field_of item in
    let rest = drop (i + 1) (map field_of fs) in
    let before = subst (λ (x : OpenField). drop i (map field_of fs) ≡ field_of x ∷ rest) (sym c.index-fields-index-in-loop-index.is) (drop_map_or field_of fs i first c.loop-index-test.true) in
    let left = subst (λ (x : OpenField). drop i (map field_of fs) ≡ field_of x ∷ rest) (sym c.index-fields-index.is) (drop_map_or field_of fs i item c.loop-index-test.true) in
    let equal : field_of first ≡ f = ap (λ l. get_or l 0 f) (sym before ∙ left) in
    let same : c.following-next.result ≡ next_of f.symbol c.loop-index.next = c.following-next.ensures ∙ ap (λ (x : Field). next_of x.symbol c.loop-index.next) equal in
    let was : c.loop-index.next ≤ i = c.loop-index.invariant.within in
    record {
      within = subst (λ n. n ≤ i + 1) (sym same) (next_within f.symbol c.loop-index.next i was);
      made =
          ap (λ n. c.push.new.self.items ++ indices_of rest (drop n c.args.numbers.now)) same
          ∙ indices_more c.loop-index.indices.items c.push.new.self.items (map field_of fs) c.args.numbers.now i c.loop-index.next f c.number.result _
          left c.in_ok-push.ensures.items c.number.ensures c.loop-index.invariant.made;
    }
