-- Texts with colours, one after another.

use Rattle.std.proofs.Common.{◌≡◌, ℕ, Bool, true, false, List, [], ◌∷◌, ◌++◌, refl, sym, ◌∙◌, ap, append_assoc, append-nil}
use Rattle.std.specs.Prelude.{◌||◌}
use Rattle.std.specs.List.{list_any}
use Rattle.rv_system.specs.Unpainted.{is_escape, ending_length, rest_of_colour, unpainted_from, unpainted}
use Rattle.rv_system.specs.Painting.{IsPainting}

-- the painted text alone
pub unpainted_whole : (painted text : List ℕ) → IsPainting painted text → unpainted painted ≡ text
unfolding unpainted_from
unpainted_whole painted text h =
    ap unpainted (sym (append-nil painted)) ∙ h.before [] ∙ append-nil text

pub none_painted : IsPainting [] []
none_painted = record { before = λ after. refl }

kept : (byte : ℕ) (rest : List ℕ) → is_escape byte ≡ false → unpainted (byte ∷ rest) ≡ byte ∷ unpainted rest
unfolding unpainted_from rest_of_colour
kept byte rest e = rw e refl

stays : (text after : List ℕ) → list_any is_escape text ≡ false → unpainted (text ++ after) ≡ text ++ unpainted after
stays [] after h = refl
stays (byte ∷ rest) after h = go (is_escape byte) refl h (stays rest after)
  where
    go : (t : Bool) → is_escape byte ≡ t → (t || list_any is_escape rest) ≡ false
        → (list_any is_escape rest ≡ false → unpainted (rest ++ after) ≡ rest ++ unpainted after)
        → unpainted (byte ∷ (rest ++ after)) ≡ byte ∷ (rest ++ unpainted after)
    go true e more later = cc
    go false e more later = kept byte (rest ++ after) e ∙ ap (λ bytes. byte ∷ bytes) (later more)

-- a word between two colours
pub painted_word : (painted colour word end text : List ℕ) → IsPainting colour [] → IsPainting end [] → list_any is_escape word ≡ false
    → IsPainting painted text → IsPainting (((painted ++ colour) ++ word) ++ end) (text ++ word)
painted_word painted colour word end text c e w h = record {
  before = λ after. ap unpainted (append_assoc ((painted ++ colour) ++ word) end after)
      ∙ ap unpainted (append_assoc (painted ++ colour) word (end ++ after))
      ∙ ap unpainted (append_assoc painted colour (word ++ (end ++ after)))
      ∙ h.before (colour ++ (word ++ (end ++ after)))
      ∙ ap (λ more. text ++ more) (c.before (word ++ (end ++ after)) ∙ stays word (end ++ after) w ∙ ap (λ more. word ++ more) (e.before after))
      ∙ sym (append_assoc text word (unpainted after));
}

-- the escapes that are put in
pub green : IsPainting (0x1b ∷ 0x5b ∷ 0x33 ∷ 0x32 ∷ 0x6d ∷ []) []
unfolding unpainted_from rest_of_colour ending_length
green = record { before = λ after. refl }

pub yellow : IsPainting (0x1b ∷ 0x5b ∷ 0x33 ∷ 0x33 ∷ 0x6d ∷ []) []
unfolding unpainted_from rest_of_colour ending_length
yellow = record { before = λ after. refl }

pub blue : IsPainting (0x1b ∷ 0x5b ∷ 0x33 ∷ 0x34 ∷ 0x6d ∷ []) []
unfolding unpainted_from rest_of_colour ending_length
blue = record { before = λ after. refl }

pub magenta : IsPainting (0x1b ∷ 0x5b ∷ 0x33 ∷ 0x35 ∷ 0x6d ∷ []) []
unfolding unpainted_from rest_of_colour ending_length
magenta = record { before = λ after. refl }

pub plain_again : IsPainting (0x1b ∷ 0x5b ∷ 0x30 ∷ 0x6d ∷ []) []
unfolding unpainted_from rest_of_colour ending_length
plain_again = record { before = λ after. refl }
