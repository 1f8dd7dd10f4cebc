-- One name more in a table.

use Rattle.std.proofs.Common.{◌≡◌, ℕ, ◌+◌, Bool, true, false, cond, Option, Some, None, option_map, is_some, List, [], ◌∷◌, ◌++◌, length, refl, sym, ap, ◌∙◌, append_assoc, append-nil, length-append}
use Rattle.std.specs.Prelude.{◌||◌, if◌then◌else◌, bytes_eq}
use Rattle.std.specs.List.{list_any}
use Rattle.std.specs.Option.{option_or}
use Rattle.std.proofs.lemmas.Grind.{flat_map-append}
use Rattle.std.proofs.lemmas.Slice.Eq.{bytes_eq-Decides}
use Rattle.rv_list_laws.proofs.ElementsLemmas.{bytes_eq_swap}
use Rattle.rv_list_laws.proofs.OptionsLemmas.{is_some_map}
use Rattle.rv_object_file_laws.specs.Written.{unseen, offset_in}
use Rattle.rv_object_writer.specs.Strings.{terminated, with_string, found_in}

-- a string is found where it is one of them
pub found_any : (ss : List (List ℕ)) (name : List ℕ) → is_some (found_in ss name) ≡ list_any (bytes_eq name) ss
found_any [] name = refl
found_any (s ∷ ss) name = by (bytes_eq s name) (is_some_map (λ o. length s + 1 + o) (found_in ss name) ∙ found_any ss name) ∙ ap (λ b. b || list_any (bytes_eq name) ss) (bytes_eq_swap s name)
  where
    by : (b : Bool) → is_some (option_map (λ o. length s + 1 + o) (found_in ss name)) ≡ list_any (bytes_eq name) ss
        → is_some (if b then Some 0 else option_map (λ o. length s + 1 + o) (found_in ss name)) ≡ (b || list_any (bytes_eq name) ss)
    by true e = refl
    by false e = e

pub put_again : (ss : List (List ℕ)) (name : List ℕ) → is_some (found_in ss name) ≡ true → with_string ss name ≡ ss
put_again ss name e = ap (λ b. if b then ss else ss ++ name ∷ []) (sym (found_any ss name) ∙ e)

pub put_first : (ss : List (List ℕ)) (name : List ℕ) → is_some (found_in ss name) ≡ false → with_string ss name ≡ ss ++ name ∷ []
put_first ss name e = ap (λ b. if b then ss else ss ++ name ∷ []) (sym (found_any ss name) ∙ e)

-- the strings so far and those that are left
pub name_more : (ss : List (List ℕ)) (name : List ℕ) (names : List (List ℕ)) → with_string ss name ++ unseen (with_string ss name) names ≡ ss ++ unseen ss (name ∷ names)
name_more ss name names = by (list_any (bytes_eq name) ss)
  where
    by : (b : Bool)
        → (if b then ss else ss ++ name ∷ []) ++ unseen (if b then ss else ss ++ name ∷ []) names
        ≡ ss ++ (if b then unseen ss names else name ∷ unseen (ss ++ name ∷ []) names)
    by true = refl
    by false = append_assoc ss (name ∷ []) (unseen (ss ++ name ∷ []) names)

longer : (s : List ℕ) (ss : List (List ℕ)) → length (terminated (s ∷ ss)) ≡ length s + 1 + length (terminated ss)
longer s ss = length-append (s ++ 0 ∷ []) (terminated ss) ∙ ap (λ n. n + length (terminated ss)) (length-append s (0 ∷ []))

-- the bytes of a table with a string more
pub bytes_more : (ss : List (List ℕ)) (key old named new : List ℕ) → old ≡ terminated ss → named ≡ old ++ key → new ≡ named ++ 0 ∷ []
    → new ≡ terminated (ss ++ key ∷ [])
bytes_more ss key old named new was name end =
    end ∙ ap (λ l. l ++ 0 ∷ []) name ∙ append_assoc old key (0 ∷ []) ∙ ap (λ l. l ++ (key ++ 0 ∷ [])) was
    ∙ ap (λ l. terminated ss ++ l) (sym (append-nil (key ++ 0 ∷ [])))
    ∙ sym (flat_map-append (λ (name : List ℕ). name ++ 0 ∷ []) ss (key ∷ []))

module _ (key name : List ℕ) where
  step : (f : ℕ → ℕ) (o : Option ℕ) (b : Bool) (n m : ℕ) → f n ≡ m
      → option_map f (option_or o (if b then Some n else None)) ≡ option_or (option_map f o) (if b then Some m else None)
  step f (Some x) b n m e = refl
  step f None true n m e = ap Some e
  step f None false n m e = refl

  -- a string that is put behind them is found at the end
  pub found_append : (ss : List (List ℕ))
      → found_in (ss ++ key ∷ []) name ≡ option_or (found_in ss name) (if bytes_eq key name then Some (length (terminated ss)) else None)
  found_append [] = refl
  found_append (s ∷ ss) =
      by (bytes_eq s name)
      (ap (option_map (λ o. length s + 1 + o)) (found_append ss)
      ∙ step (λ o. length s + 1 + o) (found_in ss name) (bytes_eq key name) (length (terminated ss)) (length (terminated (s ∷ ss))) (sym (longer s ss)))
    where
      by : (b : Bool)
          → option_map (λ o. length s + 1 + o) (found_in (ss ++ key ∷ []) name)
          ≡ option_or (option_map (λ o. length s + 1 + o) (found_in ss name)) (if bytes_eq key name then Some (length (terminated (s ∷ ss))) else None)
          → (if b then Some 0 else option_map (λ o. length s + 1 + o) (found_in (ss ++ key ∷ []) name))
          ≡ option_or (if b then Some 0 else option_map (λ o. length s + 1 + o) (found_in ss name)) (if bytes_eq key name then Some (length (terminated (s ∷ ss))) else None)
      by true e = refl
      by false e = e

  -- what the map answers once it is put there
  pub found_more : (ss : List (List ℕ)) (new : Option ℕ) (at : ℕ) → found_in ss key ≡ None → at ≡ length (terminated ss)
      → new ≡ cond (bytes_eq key name) (Some at) (found_in ss name) → new ≡ found_in (ss ++ key ∷ []) name
  found_more ss new at free e now =
      now ∙ by (bytes_eq key name) refl ∙ sym (found_append ss)
    where
      by : (b : Bool) → bytes_eq key name ≡ b
          → cond b (Some at) (found_in ss name) ≡ option_or (found_in ss name) (if b then Some (length (terminated ss)) else None)
      by true h = ap Some e ∙ ap (λ f. option_or f (Some (length (terminated ss)))) (sym (ap (found_in ss) (sym ((bytes_eq-Decides key name).0 h)) ∙ free))
      by false h = none (found_in ss name)
        where
          none : (o : Option ℕ) → o ≡ option_or o None
          none None = refl
          none (Some x) = refl

-- the offset of a string that is found, or the end
pub offset_found : (ss : List (List ℕ)) (name : List ℕ) (n : ℕ) → found_in ss name ≡ Some n → n ≡ offset_in ss name
offset_found [] name n e = absurd (cc)
offset_found (s ∷ ss) name n e = by (bytes_eq s name) (λ m g. offset_found ss name m g) e
  where
    shift : (o : Option ℕ) (k : ℕ) → ((m : ℕ) → o ≡ Some m → m ≡ k) → option_map (λ x. length s + 1 + x) o ≡ Some n → n ≡ length s + 1 + k
    shift None k f h = absurd (cc)
    shift (Some m) k f h =
        let same : length s + 1 + m ≡ n = cc in
        sym same ∙ ap (λ x. length s + 1 + x) (f m refl)

    by : (b : Bool) → ((m : ℕ) → found_in ss name ≡ Some m → m ≡ offset_in ss name)
        → (if b then Some 0 else option_map (λ o. length s + 1 + o) (found_in ss name)) ≡ Some n → n ≡ (if b then 0 else length s + 1 + offset_in ss name)
    by true f h = cc
    by false f h = shift (found_in ss name) (offset_in ss name) f h

-- the offset of one that is not found
pub offset_end : (ss : List (List ℕ)) (name : List ℕ) → found_in ss name ≡ None → length (terminated ss) ≡ offset_in ss name
offset_end [] name e = refl
offset_end (s ∷ ss) name e = by (bytes_eq s name) (λ g. offset_end ss name g) e
  where
    free : (o : Option ℕ) → option_map (λ x. length s + 1 + x) o ≡ None → o ≡ None
    free None h = refl
    free (Some m) h = absurd (cc)

    by : (b : Bool) → (found_in ss name ≡ None → length (terminated ss) ≡ offset_in ss name)
        → (if b then Some 0 else option_map (λ o. length s + 1 + o) (found_in ss name)) ≡ None → length (terminated (s ∷ ss)) ≡ (if b then 0 else length s + 1 + offset_in ss name)
    by true f h = absurd (cc)
    by false f h =
        let rest = f (free (found_in ss name) h) in
        longer s ss ∙ ap (λ n. length s + 1 + n) rest
