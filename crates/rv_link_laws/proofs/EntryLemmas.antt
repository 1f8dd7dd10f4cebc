-- Where a run begins: at what `_start` means.

use Rattle.std.specs.Prelude.{◌==◌, is_some, slice_get, option_and_then, codes, if◌then◌else◌}
use Rattle.std.proofs.Common.{◌≡◌, ◌+◌, ℕ, Bool, true, false, Option, Some, None, List, refl, ap, ◌%◌, ◌^◌}
use Rattle.std.proofs.lemmas.Bool.{and_parts}
use Rattle.rv_object_laws.specs.declared.symbol.Definition.{Definition}
use Rattle.rv_object_laws.specs.declared.symbol.Definition.TheVariants as definitions
use Rattle.rv_object_laws.specs.Object.{Section, Object}
use Rattle.rv_link_laws.specs.Inputs.{Starts}
use Rattle.rv_link_laws.specs.Moves.{moves, new_offset}
use Rattle.rv_link_laws.specs.Names.{Export, chosen, offset_address, is_in_text, defined_address, can_begin, begins_run, run_start, entry_of}
use Rattle.rv_link_laws.specs.Entry.{is_entry, has_entry}

abbrev pub start_name : List ℕ
start_name = codes "_start"

-- where a run can begin, there is an address
began : (starts : ℕ → ℕ) (o : Object) (d : Definition) → can_begin o d ≡ true → is_some (defined_address starts o d) ≡ true
began starts o definitions.Undefined e = absurd (cc)
began starts o (definitions.Absolute n) e = absurd (cc)
began starts o (definitions.Skipped n) e = absurd (cc)
began starts o (definitions.InSection section offset) e = go (slice_get o.sections section) (and_parts (is_in_text (slice_get o.sections section)) (offset % 2 == 0) e).0
  where
    go : (s : Option Section) → is_in_text s ≡ true → is_some (offset_address (starts section) offset s) ≡ true
    go None f = absurd (cc)
    go (Some s) f = ap (λ b. is_some (if b then Some ((starts section + new_offset (moves (starts section) s) offset) % 2 ^ 64) else None)) (and_parts s.loaded s.executable f).0

pub entry_some : (starts : Starts) (os : List Object) → is_some (entry_of starts os) ≡ has_entry os
entry_some starts os = by (chosen os start_name)
  where
    go : (e : Export) (b : Bool) → begins_run e ≡ b → is_some (if b then defined_address (starts e.file) e.object e.symbol.definition else None) ≡ b
    go e true f = began (starts e.file) e.object e.symbol.definition f
    go e false f = refl

    by : (f : Option Export) → is_some (option_and_then (run_start starts) f) ≡ is_entry f
    by None = refl
    by (Some e) = go e (begins_run e) refl
