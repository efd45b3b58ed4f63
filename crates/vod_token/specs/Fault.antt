-- What a fault of a whole source says of it.
use Rattle.std.specs.Prelude.{◌≡◌, ℕ, List, None, Some, ⊤}
use Rattle.vod_token.specs.Cut.{Falls}
use Rattle.vod_token.specs.Nesting.{deep_at}
use Rattle.vod_token.specs.declared.Token.{Token}
use Rattle.vod_token.specs.declared.LexFault.{LexFault}
use Rattle.vod_token.specs.declared.LexFault.TheVariants.{At, Name, Literal, Nesting, Memory}

-- the tokens are nested too deep from there on
abbrev pub IsNestingFault : List ℕ → List Token → LexFault → Type 0
IsNestingFault source ts (At place) = ⊥
IsNestingFault source ts (Name place) = ⊥
IsNestingFault source ts (Literal place) = ⊥
IsNestingFault source ts (Nesting place) = deep_at source ts ≡ Some place
IsNestingFault source ts Memory = ⊤

-- the source falls into no tokens from there on
abbrev pub IsCutFault : List ℕ → LexFault → Type 0
IsCutFault source (At place) = (ts : List Token) × Falls 0 source ts (Some (At place))
IsCutFault source (Name place) = (ts : List Token) × Falls 0 source ts (Some (Name place))
IsCutFault source (Literal place) = (ts : List Token) × Falls 0 source ts (Some (Literal place))
IsCutFault source (Nesting place) = ⊥
IsCutFault source Memory = ⊤

-- the first fault of the source as it is read; or else where all its tokens are first nested too deep
abbrev pub IsFault : List ℕ → LexFault → Type 0
IsFault source (At place) = (ts : List Token) × Falls 0 source ts (Some (At place))
IsFault source (Name place) = (ts : List Token) × Falls 0 source ts (Some (Name place))
IsFault source (Literal place) = (ts : List Token) × Falls 0 source ts (Some (Literal place))
IsFault source (Nesting place) = (ts : List Token) × Falls 0 source ts None × (deep_at source ts ≡ Some place)
IsFault source Memory = ⊤
