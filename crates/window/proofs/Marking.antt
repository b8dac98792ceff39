-- One bit made in a window.
use Rattle.std.proofs.Common.{◌≡◌, ℕ, ◌/◌, ◌%◌, ◌<◌, Bool, List, length, get_or, set, sym, ap, ◌∙◌, ⊎_elim, arith, get_or-set_other, get_or-set_same}
use Rattle.std.proofs.lemmas.Bool.{cases_eq}
use Rattle.bits.proofs.Bits.{same_bit}
use Rattle.std.specs.Int.{bit_at}
use Rattle.window.specs.Windows.{number_bits, numbers, span}
use Rattle.window.specs.Bits.{MakesBit, with_bit}
use Rattle.window.proofs.Bits.{with_bit-told, with_bit-other}

-- a bit made in its number is that bit made in the window
pub makes_bit : (window : List ℕ) (at n : ℕ) (value : Bool) → length window ≡ numbers → at < span → n ≡ with_bit (get_or window (at / number_bits) 0) (at % number_bits) value → MakesBit window at value (set window (at / number_bits) n)
makes_bit window at n value size small is =
    let i : ℕ = at / number_bits in
    let within : i < length window = omega arith in
    let here = get_or-set_same window i n 0 within ∙ is in
    record {
      told = rw here (with_bit-told (get_or window i 0) (at % number_bits) value (omega arith));
      other = λ b few apart. ⊎_elim
          (λ same. same_bit (ap (λ (m : ℕ). bit_at (get_or (set window i n) m 0) (b % number_bits)) same ∙ ap (λ (m : ℕ). bit_at m (b % number_bits)) here
          ∙ with_bit-other (get_or window i 0) (at % number_bits) (b % number_bits) value (omega arith) (omega arith) (λ e. apart (omega arith))
          ∙ ap (λ (m : ℕ). bit_at (get_or window m 0) (b % number_bits)) (sym same)))
          (λ other. same_bit (ap (λ (m : ℕ). bit_at m (b % number_bits)) (get_or-set_other window i (b / number_bits) n 0 other)))
          (cases_eq (b / number_bits) i);
    }
