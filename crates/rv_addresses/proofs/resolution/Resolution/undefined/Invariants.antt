-- The first of what is left is the first of all.
use Rattle.std.proofs.Common.{◌≡◌, map, drop}
use Rattle.rv_shorten.specs.View.{short_object_of}
use Rattle.rv_link_laws.specs.Undefined.{first_some, undefined_in, first_undefined}
use Rattle.rv_addresses.proofs.resolution.Resolution.undefined.Given as goal

abbrev pub invariant-loop-file : goal.invariant-loop-file
invariant-loop-file l =
    first_some (λ o. first_some (undefined_in (map short_object_of l.self.objects.now) o) o.sections) (map short_object_of (drop l.file l.self.objects.now))
    ≡ first_undefined (map short_object_of l.self.objects.now)
