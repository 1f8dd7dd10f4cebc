-- What is left of objects, as plain data.

use Rattle.std.specs.Prelude.{List, map}
use Rattle.rv_object_laws.specs.Object.{Object}
use Rattle.rv_shorten.specs.View.{short_object_of}
use Rattle.rv_addresses.specs.declared.resolution.Resolution.{Resolution}

abbrev pub all : Resolution → List Object
all t = map short_object_of t.objects.now
