-- What a name of the code stands for.

use Rattle.std.specs.Prelude.{ℕ, List}
use Rattle.rv_debug_laws.specs.SourceNames.{SourceName}
use Rattle.rv_debug.specs.declared.name.SourceName.{SourceName as DeclaredName}

abbrev pub called : (directory path : List ℕ) → SourceName
called directory path = record { directory = directory; path = path }

abbrev pub plain_source : DeclaredName → SourceName
plain_source n = called n.directory.items n.path.items
