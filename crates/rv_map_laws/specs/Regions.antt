-- The region of memory to which a section goes, by its flags ALLOC, EXECINSTR and WRITE
-- and by whether it has bytes in files (gABI, "Special Sections").

use Rattle.std.specs.Prelude.{Bool, not, ◌&&◌}

abbrev pub is_text : (loaded executable : Bool) → Bool
is_text loaded executable = loaded && executable

abbrev pub is_bss : (loaded executable nobits : Bool) → Bool
is_bss loaded executable nobits = loaded && not executable && nobits

abbrev pub is_data : (loaded executable nobits writable : Bool) → Bool
is_data loaded executable nobits writable = loaded && not executable && not nobits && writable

abbrev pub is_rodata : (loaded executable nobits writable : Bool) → Bool
is_rodata loaded executable nobits writable =
    loaded && not executable && not nobits && not writable
