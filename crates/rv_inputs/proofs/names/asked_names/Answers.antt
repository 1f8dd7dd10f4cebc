use Rattle.std.proofs.Common.{◌≡◌, List, map, sym, ap, subst, ◌∙◌, arith}
use Rattle.std.proofs.lemmas.List.{take_all}
use Rattle.rv_inputs.specs.Plain.{plain_texts}
use Rattle.rv_object_types.specs.declared.symbol.Symbol.{Symbol}
use Rattle.rv_object_types.specs.Parts.{symbol_of}
use Rattle.rv_inputs.specs.Names.{asks_name, names_where}
use Rattle.rv_inputs.proofs.NamesLemmas.{names_skip, names_next}
use Rattle.rv_inputs.proofs.names.asked_names.Goals as goal

pub loop-i-preserved-then-not-asks_name : goal.loop-i-preserved-then-not-asks_name
loop-i-preserved-then-not-asks_name c =
    names_skip asks_name c.args.symbols.now c.loop-i.i c.index-symbols-i.result c.loop-i-test.true c.loop-i.names.items
    (sym (ap (λ (s : Symbol). asks_name (symbol_of s)) c.index-symbols-i.is) ∙ sym c.asks_name.ensures ∙ c.if-not-asks_name.true) c.loop-i.invariant

pub loop-i-preserved : goal.loop-i-preserved
loop-i-preserved c =
    names_next asks_name c.args.symbols.now c.loop-i.i c.index-symbols-i.result c.loop-i-test.true c.loop-i.names.items c.push.new.self.items _
    (sym (ap (λ (s : Symbol). asks_name (symbol_of s)) c.index-symbols-i.is) ∙ sym c.asks_name.ensures ∙ c.if-not-asks_name.false) (ap (λ (s : Symbol). s.name.now) c.index-symbols-i.is) c.in_ok-push.ensures.items c.loop-i.invariant

pub returns : goal.returns
returns c =
    subst (λ (ss : List Symbol). plain_texts c.loop-i.names.items ≡ names_where asks_name (map symbol_of ss))
    (take_all c.loop-i.i c.args.symbols.now (omega (arith, c.loop-i-test.false))) c.loop-i.invariant
