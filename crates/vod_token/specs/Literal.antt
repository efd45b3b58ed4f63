-- The number that a text stands for (IEEE 1364-2005, 3.5.1).
use Rattle.std.specs.Prelude.{◌≡◌, ℕ, ◌%◌, ◌^◌, Bool, true, false, List, Option, None, Some}
use Rattle.vod_token.specs.Cut.{wrong_with}
use Rattle.vod_token.specs.Form.{Form, IsSpelled}
use Rattle.vod_token.specs.Form.Form.{Word, Plain, Based, Directive, Symbol}
use Rattle.vod_token.specs.Scan.{number_at}
use Rattle.vod_token.specs.declared.value.Literal.{Literal}

abbrev pub literal : ℕ → Bool → ℕ → Literal
literal size signed value = record { size = size; signed = signed; value = value }

-- a form stands for this number: a plain one has 32 bits and is signed; of a based one the bits past its size are lost
abbrev pub IsLiteral : Form → Literal → Type 0
IsLiteral Word n = ⊥
IsLiteral (Plain value) n = n ≡ literal 32 true value
IsLiteral (Based size signed value) n = n ≡ literal size signed (value % (2 ^ size))
IsLiteral Directive n = ⊥
IsLiteral Symbol n = ⊥

-- a text is spelled as a number, and stands for this one
abbrev pub StandsFor : List ℕ → Literal → Type 0
StandsFor text n = (form : Form) × IsSpelled text form × IsLiteral form n

-- the number of a form, and 0 where it is none
abbrev pub literal_of_form : Form → Literal
literal_of_form Word = literal 0 false 0
literal_of_form (Plain value) = literal 32 true value
literal_of_form (Based size signed value) = literal size signed (value % (2 ^ size))
literal_of_form Directive = literal 0 false 0
literal_of_form Symbol = literal 0 false 0

-- the number that was found at a front, and that nothing is wrong with it
abbrev pub found_literal : Option (Form × ℕ) → Literal
found_literal None = literal 0 false 0
found_literal (Some found) = literal_of_form found.0

abbrev pub IsRight : Option (Form × ℕ) → Type 0
IsRight None = ⊥
IsRight (Some found) = wrong_with 0 found.1 found.0 ≡ None

-- the number of a text, as a function
unfoldable pub literal_of : List ℕ → Literal
literal_of text = found_literal (number_at text)
