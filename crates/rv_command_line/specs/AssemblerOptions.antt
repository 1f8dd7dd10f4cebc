-- The options of an assembler that ask for what `rv as` can do
-- (GNU assembler manual, RISC-V options).

use Rattle.std.specs.Prelude.{ℕ, List, [], ◌∷◌, codes}

-- those that begin with `-m`, without it
abbrev pub machine_options : List (List ℕ)
machine_options =
    codes "arch=rv64imac" ∷ codes "abi=lp64" ∷ codes "isa-spec=2.2" ∷ codes "isa-spec=20190608"
    ∷ codes "isa-spec=20191213" ∷ codes "little-endian" ∷ codes "relax" ∷ codes "no-relax"
    ∷ codes "no-arch-attr" ∷ []

-- those that begin with `-f`, without it
abbrev pub code_options : List (List ℕ)
code_options = codes "no-pic" ∷ codes "no-pie" ∷ []
