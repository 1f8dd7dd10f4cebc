use Rattle.std.proofs.Common.{◌∙◌, sym, ap, get_or}
use Rattle.rv_object_reader.proofs.WalkingLemmas.{target_done}
use Rattle.rv_object_reader.proofs.walk.check_target.Goals as goal

pub returns : goal.returns
returns c before i was =
    target_done c.args.view.now.file.now before i c.args.header.now c.section_header-target.result c.count_symbols-symbols.result c.contents.result.now
    c.args.held.now (get_or c.args.held.now c.args.header.now.sh_info c.index-held-header.result) c.check_relocations.new.places c.check_relocations.result
    c.requires.rela c.requires.within c.section_header-target.ensures (sym c.is_loaded.ensures ∙ c.if-not-is_loaded.false) c.count_symbols-symbols.ensures
    c.contents.ensures (ap (get_or c.args.held.now c.args.header.now.sh_info) c.index-held-header.is) c.check_relocations.ensures was
