-- Each format's immediate is held where it is set, and the rest of the field with it.
use Rattle.std.proofs.Common.{◌≡◌, ℕ, ◌+◌, ◌*◌, ◌/◌, ◌%◌, ◌^◌, ◌<◌, sym, ap, ◌∙◌, arith}
use Rattle.rv_reloc_laws.specs.Fields.{IsHeld, immediate_at, rest_of, i_type, s_type, b_type, u_type, j_type, cb_type, cj_type, low_six}

pub i_held : IsHeld i_type 12 1
i_held n f below even = record { immediate = omega arith; rest = omega arith }

pub s_held : IsHeld s_type 12 1
s_held n f below even = record { immediate = omega arith; rest = omega arith }

pub b_held : IsHeld b_type 13 2
b_held n f below even = record { immediate = omega arith; rest = omega arith }

pub u_held : IsHeld u_type 20 1
u_held n f below even = record { immediate = omega arith; rest = omega arith }

pub j_held : IsHeld j_type 21 2
j_held n f below even = record { immediate = omega arith; rest = omega arith }

pub cb_held : IsHeld cb_type 9 2
cb_held n f below even = record { immediate = omega arith; rest = omega arith }

-- c.j's parcel, by what stands at its pieces
abbrev cj_parcel : (x a b c d e g h i y : ℕ) → ℕ
cj_parcel x a b c d e g h i y = x + a * 2 ^ 2 + b * 2 ^ 3 + c * 2 ^ 6 + d * 2 ^ 7 + e * 2 ^ 8 + g * 2 ^ 9 + h * 2 ^ 11 + i * 2 ^ 12 + y * 2 ^ 13

module _ (x a b c d e g h i y : ℕ) (kx : x < 2 ^ 2) (ka : a < 2 ^ 1) (kb : b < 2 ^ 3) (kc : c < 2 ^ 1) (kd : d < 2 ^ 1) (ke : e < 2 ^ 1) (kg : g < 2 ^ 2) (kh : h < 2 ^ 1) (ki : i < 2 ^ 1) where
  cj_a : (cj_parcel x a b c d e g h i y) / 2 ^ 2 % 2 ^ 1 ≡ a
  cj_a = omega arith

  cj_b : (cj_parcel x a b c d e g h i y) / 2 ^ 3 % 2 ^ 3 ≡ b
  cj_b = omega arith

  cj_c : (cj_parcel x a b c d e g h i y) / 2 ^ 6 % 2 ^ 1 ≡ c
  cj_c = omega arith

  cj_d : (cj_parcel x a b c d e g h i y) / 2 ^ 7 % 2 ^ 1 ≡ d
  cj_d = omega arith

  cj_e : (cj_parcel x a b c d e g h i y) / 2 ^ 8 % 2 ^ 1 ≡ e
  cj_e = omega arith

  cj_g : (cj_parcel x a b c d e g h i y) / 2 ^ 9 % 2 ^ 2 ≡ g
  cj_g = omega arith

  cj_h : (cj_parcel x a b c d e g h i y) / 2 ^ 11 % 2 ^ 1 ≡ h
  cj_h = omega arith

  cj_i : (cj_parcel x a b c d e g h i y) / 2 ^ 12 % 2 ^ 1 ≡ i
  cj_i = omega arith

  cj_low : (cj_parcel x a b c d e g h i y) % 2 ^ 2 ≡ x
  cj_low = omega arith

  cj_high : (cj_parcel x a b c d e g h i y) / 2 ^ 13 ≡ y
  cj_high = omega arith

  cj_immediate : immediate_at cj_type (cj_parcel x a b c d e g h i y) ≡ a * 2 ^ 5 + b * 2 ^ 1 + c * 2 ^ 7 + d * 2 ^ 6 + e * 2 ^ 10 + g * 2 ^ 8 + h * 2 ^ 4 + i * 2 ^ 11
  cj_immediate = omega (arith, cj_a, cj_b, cj_c, cj_d, cj_e, cj_g, cj_h, cj_i)

-- no bits stand between the pieces
cj_gaps : (f a b c d e g h i : ℕ) → f / 2 ^ 0 % 2 ^ 2 * 2 ^ 0 + a * 2 ^ 2 + (f / 2 ^ 3 % 2 ^ 0 * 2 ^ 3 + b * 2 ^ 3 + (f / 2 ^ 6 % 2 ^ 0 * 2 ^ 6 + c * 2 ^ 6 + (f / 2 ^ 7 % 2 ^ 0 * 2 ^ 7 + d * 2 ^ 7 + (f / 2 ^ 8 % 2 ^ 0 * 2 ^ 8 + e * 2 ^ 8 + (f / 2 ^ 9 % 2 ^ 0 * 2 ^ 9 + g * 2 ^ 9 + (f / 2 ^ 11 % 2 ^ 0 * 2 ^ 11 + h * 2 ^ 11 + (f / 2 ^ 12 % 2 ^ 0 * 2 ^ 12 + i * 2 ^ 12 + (f / 2 ^ 13 * 2 ^ 13)))))))) ≡ cj_parcel (f % 2 ^ 2) a b c d e g h i (f / 2 ^ 13)
cj_gaps f a b c d e g h i = omega arith

cj_rest : (f : ℕ) → rest_of cj_type f ≡ f % 2 ^ 2 + f / 2 ^ 13 * 2 ^ 13
cj_rest f = cj_gaps f 0 0 0 0 0 0 0 0 ∙ omega arith

joined : (p q x y : ℕ) → p ≡ x → q ≡ y → p + q * 2 ^ 13 ≡ x + y * 2 ^ 13
joined p q x y e f = cc

pub cj_held : IsHeld cj_type 12 2
cj_held n f below even =
    let digits : n / 2 ^ 5 % 2 ^ 1 * 2 ^ 5 + n / 2 ^ 1 % 2 ^ 3 * 2 ^ 1 + n / 2 ^ 7 % 2 ^ 1 * 2 ^ 7 + n / 2 ^ 6 % 2 ^ 1 * 2 ^ 6 + n / 2 ^ 10 % 2 ^ 1 * 2 ^ 10 + n / 2 ^ 8 % 2 ^ 2 * 2 ^ 8 + n / 2 ^ 4 % 2 ^ 1 * 2 ^ 4 + n / 2 ^ 11 % 2 ^ 1 * 2 ^ 11 ≡ n = omega arith in
    let same = cj_gaps f (n / 2 ^ 5 % 2 ^ 1) (n / 2 ^ 1 % 2 ^ 3) (n / 2 ^ 7 % 2 ^ 1) (n / 2 ^ 6 % 2 ^ 1) (n / 2 ^ 10 % 2 ^ 1) (n / 2 ^ 8 % 2 ^ 2) (n / 2 ^ 4 % 2 ^ 1) (n / 2 ^ 11 % 2 ^ 1) in
    let parcel = cj_immediate (f % 2 ^ 2) (n / 2 ^ 5 % 2 ^ 1) (n / 2 ^ 1 % 2 ^ 3) (n / 2 ^ 7 % 2 ^ 1) (n / 2 ^ 6 % 2 ^ 1) (n / 2 ^ 10 % 2 ^ 1) (n / 2 ^ 8 % 2 ^ 2) (n / 2 ^ 4 % 2 ^ 1) (n / 2 ^ 11 % 2 ^ 1) (f / 2 ^ 13) (omega arith) (omega arith) (omega arith) (omega arith) (omega arith) (omega arith) (omega arith) (omega arith) (omega arith) in
    let low = cj_low (f % 2 ^ 2) (n / 2 ^ 5 % 2 ^ 1) (n / 2 ^ 1 % 2 ^ 3) (n / 2 ^ 7 % 2 ^ 1) (n / 2 ^ 6 % 2 ^ 1) (n / 2 ^ 10 % 2 ^ 1) (n / 2 ^ 8 % 2 ^ 2) (n / 2 ^ 4 % 2 ^ 1) (n / 2 ^ 11 % 2 ^ 1) (f / 2 ^ 13) (omega arith) (omega arith) (omega arith) (omega arith) (omega arith) (omega arith) (omega arith) (omega arith) (omega arith) in
    let high = cj_high (f % 2 ^ 2) (n / 2 ^ 5 % 2 ^ 1) (n / 2 ^ 1 % 2 ^ 3) (n / 2 ^ 7 % 2 ^ 1) (n / 2 ^ 6 % 2 ^ 1) (n / 2 ^ 10 % 2 ^ 1) (n / 2 ^ 8 % 2 ^ 2) (n / 2 ^ 4 % 2 ^ 1) (n / 2 ^ 11 % 2 ^ 1) (f / 2 ^ 13) (omega arith) (omega arith) (omega arith) (omega arith) (omega arith) (omega arith) (omega arith) (omega arith) (omega arith) in
    record {
      immediate = ap (immediate_at cj_type) same ∙ parcel ∙ digits;
      rest = ap (rest_of cj_type) same ∙ cj_rest _ ∙ joined _ _ _ _ low high ∙ sym (cj_rest f);
    }

pub six_held : IsHeld low_six 6 1
six_held n f below even = record { immediate = omega arith; rest = omega arith }
