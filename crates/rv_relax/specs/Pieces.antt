-- The table by which new offsets are looked up: paddings in the order of their places.

use Rattle.rv_shorten.specs.declared.piece.Piece as rows

-- a row of which nothing else is told
abbrev pub Piece : Type 0
Piece = rows.Piece (Unit {0})
