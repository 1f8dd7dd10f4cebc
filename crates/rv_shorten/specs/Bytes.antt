-- The bytes that are left of a section, while they are taken from the front.

use Rattle.std.specs.Prelude.{ℕ, ◌-◌, List, [], ◌∷◌, ◌++◌, length, map}
use Rattle.rv_isa_laws.specs.Bytes.{little_endian}
use Rattle.rv_link_laws.specs.Moves.{kept}
use Rattle.rv_shorten.specs.declared.bytes.LeftBytes.{LeftBytes}
use Rattle.rv_shorten.specs.declared.bytes.Run.{Run}
use Rattle.rv_shorten.specs.Cut.{Cut, move_of}

unfoldable pub left_bytes : LeftBytes → List ℕ
left_bytes b =
    little_endian b.bytes b.word ++ kept b.at (map move_of b.cuts.now) b.rest.now

-- a call, and the section behind it
unfoldable pub run_bytes : Run → List ℕ
run_bytes r = little_endian r.bytes r.word ++ r.section.now

-- how many bytes stand from an offset on before the first of the calls, or the end
abbrev pub room_before : (at size : ℕ) → List Cut → ℕ
room_before at size [] = size
room_before at size (c ∷ cs) = c.place - at

-- how many bytes of the section stand together
abbrev pub together : LeftBytes → ℕ
together b = room_before b.at (length b.rest.now) b.cuts.now
