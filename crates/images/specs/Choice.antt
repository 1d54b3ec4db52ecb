-- Document 02, M-102: "The analog choice is floor(count x 15 / 4096)."; "Count above 4095 is 1."
use Rattle.std.specs.Prelude.{ℕ, ◌*◌, ◌/◌, cond, ltb, Result}
use Rattle.verdicts.specs.declared.Refusal.{Refusal}
use Rattle.images.specs.Image.{Form}
use Rattle.images.specs.Told.{told_by, value_of}

pub record Choice : Type 0 where
  pub number : ℕ
  pub place : ℕ
  pub block : ℕ

-- "the place is the argument's, from 1, where the number is 1 ..., and a refused value is 0"
unfoldable pub choice : Form → ℕ → Choice
choice form count =
    cond (ltb 4095 count)
    (record { number = 1; place = 1; block = 0 })
    (record { number = 0; place = 0; block = count * form.blocks / 4096 })

-- what the code's result tells
abbrev pub choice_of : Result ℕ Refusal → Choice
choice_of r = record { number = (told_by r).number; place = (told_by r).place; block = value_of r }
