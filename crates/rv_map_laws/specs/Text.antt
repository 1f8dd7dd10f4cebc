-- The text of a map: lines of words, addresses in hexadecimal and other numbers in decimal.

use Rattle.std.specs.Prelude.{ℕ, ◌-◌, false, List, [], ◌∷◌, ◌++◌, length, replicate, map, flat_map, codes, decimal}
use Rattle.std.specs.Fmt.{digits}
use Rattle.rv_map_laws.specs.declared.map.Region.{Region}
use Rattle.rv_map_laws.specs.declared.map.Row.{Row}
use Rattle.rv_map_laws.specs.declared.map.SectionId.{SectionId}
use Rattle.rv_map_laws.specs.Map.{Map, Global}

-- lower case, without leading zeros
abbrev pub hexadecimal : ℕ → List ℕ
hexadecimal n = digits 16 false n

-- hexadecimal digits in lower case, with zeros in front where there are fewer than these
abbrev pub padded : ℕ → ℕ → List ℕ
padded width n = replicate (width - length (hexadecimal n)) 48 ++ hexadecimal n

-- a line: its words with a blank between each two, and LF after the last
unfoldable pub line_text : List (List ℕ) → List ℕ
line_text [] = 10 ∷ []
line_text (word ∷ []) = word ++ 10 ∷ []
line_text (word ∷ next ∷ words) = word ++ 32 ∷ line_text (next ∷ words)

abbrev pub region_line : List ℕ → Region → List (List ℕ)
region_line name r = name ∷ hexadecimal r.start ∷ hexadecimal r.end ∷ []

abbrev pub gap_line : Region → List (List ℕ)
gap_line gap = region_line (codes "gap") gap

abbrev pub global_line : Global → List (List ℕ)
global_line g = codes "global" ∷ g.name ∷ hexadecimal g.address ∷ []

abbrev pub drop_line : SectionId → List (List ℕ)
drop_line d = codes "drop" ∷ decimal d.file ∷ decimal d.section ∷ []

abbrev pub row_line : Row → List (List ℕ)
row_line r =
    codes "row" ∷ decimal r.file ∷ decimal r.line ∷ decimal r.ordinal ∷ hexadecimal r.address ∷
    decimal r.bytes ∷ decimal r.instructions ∷ []

-- the lines of the regions
abbrev pub region_lines : Map → List (List (List ℕ))
region_lines m = region_line (codes "text") m.text
    ∷ region_line (codes "rodata") m.rodata
    ∷ region_line (codes "data") m.data
    ∷ region_line (codes "bss") m.bss
    ∷ []

-- the lines that every map has
unfoldable pub head_lines : Map → List (List (List ℕ))
head_lines m =
    (codes "rvmap" ∷ codes "1" ∷ []) ∷ region_lines m
    ++ (codes "entry" ∷ hexadecimal m.entry ∷ []) ∷ []

-- the lines of a map, kind after kind
abbrev pub map_lines : Map → List (List (List ℕ))
map_lines m =
    head_lines m ++ map gap_line m.gaps ++ map global_line m.globals ++ map drop_line m.drops
    ++ map row_line m.rows

abbrev pub map_text : Map → List ℕ
map_text m = flat_map line_text (map_lines m)
