-- The text of objects, as the code has it.

use Rattle.std.specs.Prelude.{◌≡◌, ◌+◌, ◌*◌, ◌≤◌, ◌^◌, Bool, not, ◌&&◌, true, List, length, map, Option, Some, None, if◌then◌else◌}
use Rattle.std.specs.List.{slice_get}
use Rattle.rv_size_laws.specs.declared.site.Call.{Call}
use Rattle.rv_object_laws.specs.Object.{Relocation, Section, Object, stored, size_of}
use Rattle.rv_object_types.specs.Sections.{section_of}
use Rattle.rv_object_types.specs.View.{object_of}
use Rattle.rv_link_laws.specs.Moves.{full_padding, has_padding}
use Rattle.rv_link_laws.specs.Inputs.{InputSection, goes_to_text}
use Rattle.rv_link_laws.specs.Names.{Place}
use Rattle.rv_link_laws.specs.CallSites.{is_call, are_call_words, is_entered, is_text_place, target_place, text_offset, excess, constant, is_compressible}
use Rattle.rv_names.specs.Names.{IsNames}
use Rattle.rv_link_sites.specs.declared.text.Target.{Target}
use Rattle.rv_link_sites.specs.declared.text.Text.{Text}
use Rattle.rv_link_sites.specs.declared.changes.TextSection.{TextSection}
use Rattle.rv_link_sites.specs.Entries.{AreEntries}
use Rattle.rv_link_sites.specs.Line.{ended_files, IsLine, input}

abbrev pub objects_of : Text → List Object
objects_of t = map object_of t.objects.now

-- what the names of the objects mean, and where their sections stand
pub record IsLaidText (t : Text) : Type 0 where
  pub names : IsNames (objects_of t) t.names.now
  pub line : IsLine (objects_of t) t.line
  pub low : ended_files 0 (objects_of t) ≤ 9 * 2 ^ 123

-- where a place is, if it is in text
abbrev pub text_target : List Object → Option Place → Option Target
text_target os p =
    if is_text_place os p
    then Some (record { offset = text_offset os p; past_end = excess os p }) else None

-- ---- a section

-- what a section of the code is among those of the text
abbrev pub input_of : TextSection → InputSection
input_of i =
    input (i.file.0 + 1) (object_of i.object.now) i.index.0 (section_of i.section.now)

-- a section of these objects, with what their symbols name
pub record IsAmong (t : Text) (i : TextSection) : Type 0 where
  pub at : slice_get (objects_of t) i.file.0 ≡ Some (object_of i.object.now)
  pub there : slice_get (object_of i.object.now).sections i.index.0
      ≡ Some (section_of i.section.now)
  pub entries : AreEntries (object_of i.object.now) i.entries.now

-- and one of text
pub record IsGiven (t : Text) (i : TextSection) : Type 0 where
  pub among : IsAmong t i
  pub text : goes_to_text (section_of i.section.now) ≡ true

-- what may change of a section lies in it
pub record IsLying (s : Section) (r : Relocation) : Type 0 where
  pub padding : has_padding r ≡ true →
      (full_padding r ≤ 4094) × (r.place + full_padding r ≤ size_of s.contents)
  pub call : is_call r.kind ≡ true →
      (r.place + 8 ≤ length (stored s.contents)) × (r.place + 8 ≤ size_of s.contents)

-- its words, its target and the symbols of its object allow that a call is shortened
abbrev pub can_shorten : List Object → InputSection → Relocation → Bool
can_shorten os i r =
    are_call_words (stored i.section.contents) r.place
    && is_text_place os (target_place os i r)
    && not (is_entered i.object i.index r.place)

abbrev pub call_of : List Object → InputSection → Relocation → Call
call_of os i r = record {
  target = text_offset os (target_place os i r);
  addend = constant os i r;
  compressed = is_compressible i r;
}
