-- The size of an item is that of its stretch of the section.

use Rattle.std.proofs.Common.{◌≡◌, ℕ, Bool, true, false, Option}
use Rattle.rv_expression_laws.specs.Values.{Value}
use Rattle.rv_statement_laws.specs.Statement.{StatementKind, Label, Numbered, Instruction, Directs, Expression, Directive, Enters, Opens, Binds, Sets, Chooses, Ignored, Aligns, Emits}
use Rattle.rv_unit_laws.specs.Tables.{alignment_of}
use Rattle.rv_draft.specs.declared.item.CodeSize.{CodeSize}
use Rattle.rv_unit.specs.declared.item.Item.{Item}
use Rattle.rv_draft.specs.Measured.{IsSize, stretch}
use Rattle.rv_draft.specs.Sized.{IsItemPadded, IsSizedDirective, IsSized, size_instructions}

padded : (b : Bool) (own : CodeSize) (x : Item) (begins : ℕ) (a : Option ℕ) → IsItemPadded b own (stretch x.offset x.bytes) begins a → IsItemPadded b own x begins a
padded true own x begins a h = h
padded false own x begins a h = h

sized_directive : (v : Expression → Value) (b : Bool) (own : CodeSize) (x : Item) (begins : ℕ) (d : Directive) → IsSizedDirective v b own (stretch x.offset x.bytes) begins d → IsSizedDirective v b own x begins d
sized_directive v b own x begins (Sets name e) h = h
sized_directive v b own x begins (Emits contents) h = h
sized_directive v b own x begins (Aligns form e) h = (h.0, padded b own x begins (alignment_of v (Aligns form e)) h.1)
sized_directive v b own x begins (Enters standard) h = h
sized_directive v b own x begins (Opens name flags kind) h = h
sized_directive v b own x begins (Binds binding names) h = h
sized_directive v b own x begins (Chooses choice) h = h
sized_directive v b own x begins Ignored h = h

pub sized_as : (v : Expression → Value) (b : Bool) (x : Item) (begins : ℕ) (size : CodeSize) (says : StatementKind) → x.instructions ≡ size_instructions size → IsSize v b begins x.offset size says x.bytes → IsSized v b x begins size says
sized_as v b x begins size (Label name) count h = (h, count)
sized_as v b x begins size (Numbered number) count h = (h, count)
sized_as v b x begins size (Instruction mnemonic operands) count h = (h, count)
sized_as v b x begins size (Directs d) count h = (count, sized_directive v b size x begins d h)
