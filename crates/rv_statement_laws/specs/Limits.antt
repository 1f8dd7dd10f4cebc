-- How long a source may be (the manual's page on sources, "Limits"; the standards set none).

use Rattle.std.specs.Prelude.{ℕ, ◌^◌}

-- the most statements of a source
abbrev pub most_statements : ℕ
most_statements = 2 ^ 22
