use Rattle.std.proofs.Common.{bytes_eq}
use Rattle.rv_isa.specs.Mnemonics.{mnemonic_text}
use Rattle.rv_counts.proofs.SumsLemmas.{none_more}
use Rattle.rv_counts.proofs.mnemonics.list_row.Goals as goal

pub returns-then-row-eq0-clause-once : goal.returns-then-row-eq0-clause-once
returns-then-row-eq0-clause-once c = λ key sum was.
    none_more (bytes_eq (mnemonic_text c.args.row.now.inst) key) _ sum c.args.row.now.count was c.if-row-eq0.true
