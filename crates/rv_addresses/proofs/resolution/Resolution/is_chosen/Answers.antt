use Rattle.std.proofs.Common.{◌≡◌, true, map, sym, ap, ◌∙◌}
use Rattle.std.specs.Prelude.{◌&&◌, option_map}
use Rattle.rv_object_types.specs.Parts.{symbol_of}
use Rattle.rv_link_laws.specs.Names.{is_defined}
use Rattle.rv_cut_laws.specs.Cutting.{cut_symbol}
use Rattle.rv_shorten.specs.View.{short_object_of}
use Rattle.rv_names.specs.Chosen.{definer}
use Rattle.rv_names.specs.Names.{exported_of}
use Rattle.rv_addresses.specs.Shown.{is_kept}
use Rattle.rv_addresses.proofs.CutsLemmas.{defined_cut}
use Rattle.rv_addresses.proofs.ExportedLemmas.{global_chosen_at, weak_chosen}
use Rattle.rv_addresses.proofs.resolution.Resolution.is_chosen.Goals as goal

pub returns-in-Global-clause-chosen : goal.returns-in-Global-clause-chosen
returns-in-Global-clause-chosen c = λ o cuts at there.
    let t = c.args.self.now in
    let os = map short_object_of t.objects.now in
    let s = cut_symbol cuts (symbol_of c.args.symbol.now) in
    c.is_defined.ensures ∙ sym (defined_cut cuts c.args.symbol.now.definition) ∙ global_chosen_at os c.args.file.0 o c.args.index.0 s at there t.named.distinct c.in-Global.is

pub returns-then-is_defined-clause-chosen : goal.returns-then-is_defined-clause-chosen
returns-then-is_defined-clause-chosen c = λ o cuts at there.
    let os = map short_object_of c.args.self.now.objects.now in
    let s = cut_symbol cuts (symbol_of c.args.symbol.now) in
    let defined : is_defined s.definition ≡ true = defined_cut cuts c.args.symbol.now.definition ∙ sym c.is_defined-in-Weak.ensures ∙ c.if-is_defined.true in
    c.is_named.ensures ∙ ap (λ b. b && is_kept c.args.file.0 c.args.index.0 (option_map exported_of (definer os s.name))) (sym defined)
    ∙ weak_chosen os c.args.file.0 o c.args.index.0 s c.in-Weak.is
