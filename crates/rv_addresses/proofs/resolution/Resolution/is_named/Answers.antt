use Rattle.std.proofs.Common.{◌∙◌, ap, map, sym}
use Rattle.rv_shorten.specs.View.{short_object_of}
use Rattle.rv_addresses.specs.Shown.{is_kept}
use Rattle.rv_addresses.proofs.resolution.Resolution.is_named.Goals as goal

pub returns-in-None : goal.returns-in-None
returns-in-None c =
    let t = c.args.self.now in
    ap (is_kept c.args.file.0 c.args.index.0) (sym c.in-None.is ∙ c.named.ensures (map short_object_of t.objects.now) t.named)
