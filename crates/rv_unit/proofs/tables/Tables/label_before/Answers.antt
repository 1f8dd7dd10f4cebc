use Rattle.std.proofs.Common.{◌≡◌, ◌∙◌, ap, sym, true, option_map, Some, None}
use Rattle.std.specs.Prelude.{if◌then◌else◌}
use Rattle.std.proofs.lemmas.Bool.{lt-ltb, le-ltb}
use Rattle.rv_unit_laws.specs.Tables.{Labelled, label_of}
use Rattle.rv_unit_laws.proofs.BeforeLemmas.{label_below, below}
use Rattle.rv_unit.specs.Tables.{tables_of, label_at}
use Rattle.rv_unit.proofs.tables.Tables.label_before.Goals as goal

pub returns-then-label-ordinal : goal.returns-then-label-ordinal
returns-then-label-ordinal c = λ o h.
    let t = tables_of c.args.self.now in
    let name = c.args.name.now in
    let l = label_at name c.in-Some.label in
    let found : label_of t.labels true 0 name ≡ Some l = sym c.label.ensures ∙ ap (option_map (label_at name)) c.in-Some.is in
    sym (label_below t o c.args.ordinal name h ∙ ap (below (λ (k : Labelled). k.ordinal) c.args.ordinal) found ∙ ap (λ b. if b then Some l else None) (lt-ltb l.ordinal c.args.ordinal c.if-label-ordinal.true))

pub returns-else-label-ordinal : goal.returns-else-label-ordinal
returns-else-label-ordinal c = λ o h.
    let t = tables_of c.args.self.now in
    let name = c.args.name.now in
    let l = label_at name c.in-Some.label in
    let found : label_of t.labels true 0 name ≡ Some l = sym c.label.ensures ∙ ap (option_map (label_at name)) c.in-Some.is in
    sym (label_below t o c.args.ordinal name h ∙ ap (below (λ (k : Labelled). k.ordinal) c.args.ordinal) found ∙ ap (λ b. if b then Some l else None) (le-ltb l.ordinal c.args.ordinal c.if-label-ordinal.false))

pub returns-in-None : goal.returns-in-None
returns-in-None c = λ o h.
    let t = tables_of c.args.self.now in
    let name = c.args.name.now in
    let found : label_of t.labels true 0 name ≡ None = sym c.label.ensures ∙ ap (option_map (label_at name)) c.in-None.is in
    sym (label_below t o c.args.ordinal name h ∙ ap (below (λ (k : Labelled). k.ordinal) c.args.ordinal) found)
