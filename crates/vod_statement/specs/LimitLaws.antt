-- What is answered where a part would be nested too deep.
use Rattle.std.proofs.Common.{◌≡◌, Bool, true, false, List, [], ◌∷◌, None, refl, ap}
use Rattle.vod_expr.specs.Answer.{fault_at}
use Rattle.vod_expr.specs.Grammar.{Lexeme}
use Rattle.vod_expr.specs.declared.ParseFault.TheVariants.{Statement}
use Rattle.vod_grammar.specs.Form.{limit_read, refuse_by}
use Rattle.vod_grammar.specs.Read.{Failed, first, passes, place_of}

pub limited : {A : Type 0} (test : Lexeme → Bool) (ts : List Lexeme) → passes test (first ts None) ≡ true → limit_read {A = A} test ts ≡ Failed (Statement (place_of ts))
limited test [] h = cc
limited test (t ∷ ts) h = ap (λ v. refuse_by v t) h

pub unlimited : {A : Type 0} (test : Lexeme → Bool) (ts : List Lexeme) → passes test (first ts None) ≡ false → limit_read {A = A} test ts ≡ Failed (fault_at ts)
unlimited test [] h = refl
unlimited test (t ∷ ts) h = ap (λ v. refuse_by v t) h
