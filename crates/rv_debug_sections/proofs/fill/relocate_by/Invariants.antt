use Rattle.std.proofs.Common.{pos, ◌≡◌, ◌-◌, ◌*◌, ◌/◌, length}
use Rattle.rv_debug_sections.proofs.RelocatedLemmas.{by_records}
use Rattle.rv_debug_sections.specs.Views.{plain_source}
use Rattle.rv_debug_sections.proofs.fill.relocate_by.Given as goal

abbrev pub invariant-loop-index : goal.invariant-loop-index
invariant-loop-index l =
    by_records (plain_source l.source) l.place (pos l.lost) l.records 0 (length l.records / 24) l.initial.bytes
    ≡ by_records (plain_source l.source) l.place (pos l.lost) l.records (24 * l.index) (length l.records / 24 - l.index) l.bytes
