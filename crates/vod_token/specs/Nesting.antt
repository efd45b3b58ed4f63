-- How deep brackets and operators are nested, counted on tokens.
use Rattle.std.specs.Prelude.{ℕ, ◌+◌, ◌-◌, if◌then◌else◌, nat_lt, List, [], ◌∷◌, sum, length, Option, None, Some, slice_range, codes}
use Rattle.vod_token.specs.Form.{operators}
use Rattle.vod_token.specs.Word.{is_among}
use Rattle.vod_token.specs.declared.TheConstants.{NESTING}
use Rattle.vod_token.specs.declared.Token.{Token}
use Rattle.vod_token.specs.declared.TokenKind.{TokenKind}
use Rattle.vod_token.specs.declared.TokenKind.TheVariants.{Name, Reserved, Number, Directive, Symbol}
use Rattle.vod_token.specs.declared.nesting.Effect.{Effect}
use Rattle.vod_token.specs.declared.nesting.Effect.TheVariants.{Opens, Closes, Separates, Counts, Leaves}

-- what a symbol does to the counts of operators
abbrev pub symbol_effect : List ℕ → Effect
symbol_effect text =
    if is_among (codes "(" ∷ codes "[" ∷ codes "{" ∷ []) text then Opens
    else (if is_among (codes ")" ∷ codes "]" ∷ codes "}" ∷ []) text then Closes
    else (if is_among (codes "," ∷ codes ";" ∷ []) text then Separates
    else (if is_among operators text then Counts
    else Leaves)))

-- what a token does to them
abbrev pub effect_of : TokenKind → List ℕ → Effect
effect_of Name text = Leaves
effect_of Reserved text = Leaves
effect_of Number text = Leaves
effect_of Directive text = Leaves
effect_of Symbol text = symbol_effect text

-- The counts: one for each open bracket, and one for what stands outside of all, the last one first. A bracket adds a
-- count 0; one that closes takes the last count away, where there are two or more; `,` and `;` set the last count to 0;
-- and an operator adds 1 to it.
abbrev pub changed : Effect → ℕ → List ℕ → List ℕ
changed Opens count counts = 0 ∷ count ∷ counts
changed Closes count [] = count ∷ []
changed Closes count (outer ∷ counts) = outer ∷ counts
changed Separates count counts = 0 ∷ counts
changed Counts count counts = (count + 1) ∷ counts
changed Leaves count counts = count ∷ counts

abbrev pub counts_after : Effect → List ℕ → List ℕ
counts_after effect [] = []
counts_after effect (count ∷ counts) = changed effect count counts

-- the nesting: the open brackets and all counted operators
abbrev pub nesting : List ℕ → ℕ
nesting counts = sum counts + length counts - 1

-- the slice of the source that is the token
abbrev pub slice_of : List ℕ → Token → List ℕ
slice_of source t = slice_range source t.start t.end

-- where the first token begins that takes the nesting past the limit
abbrev pub too_deep : List ℕ → List ℕ → List Token → Option ℕ
too_deep source counts [] = None
too_deep source counts (t ∷ ts) =
    if nat_lt NESTING (nesting (counts_after (effect_of t.kind (slice_of source t)) counts)) then Some t.start
    else too_deep source (counts_after (effect_of t.kind (slice_of source t)) counts) ts

-- the same of all tokens of a source: at first there is one count, 0
abbrev pub deep_at : List ℕ → List Token → Option ℕ
deep_at source ts = too_deep source (0 ∷ []) ts
