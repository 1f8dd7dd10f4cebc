use Rattle.rv_image.specs.Views.{linked_of}
use Rattle.rv_image.proofs.LoadedAgainLemmas.{short}
use Rattle.rv_image.proofs.writing.write_exec.Goals as goal

pub put_parts-requires : goal.put_parts-requires
put_parts-requires c =
    rw (c.in_ok-put_programs.ensures.bytes, c.in_ok-header.ensures.ok, c.new-file.ensures, c.header.ensures)
    (short (linked_of c.args.linked.now))
