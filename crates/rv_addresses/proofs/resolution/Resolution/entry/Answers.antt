use Rattle.std.proofs.Common.{◌≡◌, ◌+◌, ◌∙◌, None, option_map, map, ap, sym}
use Rattle.std.specs.Prelude.{option_and_then, if◌then◌else◌}
use Rattle.rv_list_laws.proofs.OptionsLemmas.{option_map_none}
use Rattle.rv_link_laws.specs.Names.{chosen, defined_address, run_start}
use Rattle.rv_placement.specs.Placement.{starts_of}
use Rattle.rv_shorten.specs.View.{short_object_of}
use Rattle.rv_addresses.specs.Meant.{meant_of}
use Rattle.rv_link_laws.proofs.EntryLemmas.{start_name}
use Rattle.rv_addresses.proofs.EntryLemmas.{start_kept}
use Rattle.rv_addresses.proofs.MeantLemmas.{kept_held}
use Rattle.rv_addresses.proofs.resolution.Resolution.entry.Goals as goal

pub returns-then-can_begin : goal.returns-then-can_begin
returns-then-can_begin c = λ bounds stands.
    let os = map short_object_of c.args.self.now.objects.now in
    let starts = starts_of c.args.placement.now in
    let x = c.in-Some.meant in
    let k = kept_held os start_name x (sym c.start.ensures ∙ c.in-Some.is) in
    c.defined_address.ensures bounds k.export.object stands k.at
    ∙ sym
    (start_kept starts os x k
    ∙ ap (λ b. if b then defined_address (starts (x.file.0 + 1)) k.export.object x.definition else None) (sym (c.can_begin.ensures k.export.object k.at) ∙ c.if-can_begin.true))

pub returns-else-can_begin : goal.returns-else-can_begin
returns-else-can_begin c = λ bounds stands.
    let os = map short_object_of c.args.self.now.objects.now in
    let starts = starts_of c.args.placement.now in
    let x = c.in-Some.meant in
    let k = kept_held os start_name x (sym c.start.ensures ∙ c.in-Some.is) in
    sym
    (start_kept starts os x k
    ∙ ap (λ b. if b then defined_address (starts (x.file.0 + 1)) k.export.object x.definition else None) (sym (c.can_begin.ensures k.export.object k.at) ∙ c.if-can_begin.false))

pub returns-in-None : goal.returns-in-None
returns-in-None c = λ bounds stands.
    let os = map short_object_of c.args.self.now.objects.now in
    let starts = starts_of c.args.placement.now in
    let found : option_map meant_of (chosen os start_name) ≡ None = sym c.start.ensures ∙ c.in-None.is in
    sym (ap (option_and_then (run_start starts)) (option_map_none meant_of (chosen os start_name) found))
