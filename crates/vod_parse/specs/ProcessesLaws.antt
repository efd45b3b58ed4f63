-- The forms of event controls, `always` and continuous assignments are exact.
use Rattle.std.proofs.Common.{ℕ, List, ◌∷◌, ◌++◌, Option, None, Some, refl}
use Rattle.vod_tree.specs.declared.expr.Expr.{Expr}
use Rattle.vod_tree.specs.declared.statement.Always.{Always}
use Rattle.vod_tree.specs.declared.statement.Assignment.{Assignment}
use Rattle.vod_tree.specs.declared.statement.Edge.TheVariants as edge
use Rattle.vod_tree.specs.declared.statement.Event.{Event}
use Rattle.vod_tree.specs.declared.statement.Lval.{Lval}
use Rattle.vod_tree.specs.declared.statement.SecondEvent.{SecondEvent}
use Rattle.vod_tree.specs.declared.statement.Separator.TheVariants as separator
use Rattle.vod_expr.specs.Grammar.{Lexeme, IsExpr}
use Rattle.vod_grammar.specs.EitherLaws.{either_laws}
use Rattle.vod_grammar.specs.Form.{Sight, ExpressionPhrase, an_expression, a_word, a_name, nothing, in_turn, changed, led, unled, word_form, name_form, expression_form, separated}
use Rattle.vod_grammar.specs.Laws.{Laws}
use Rattle.vod_grammar.specs.PartLaws.{mapped_laws, separated_laws}
use Rattle.vod_grammar.specs.Read.{first}
use Rattle.vod_grammar.specs.ThenLaws.{then_laws}
use Rattle.vod_grammar.specs.TokenLaws.{word_laws, name_laws, give_laws}
use Rattle.vod_grammar.specs.WordLaws.{is_word-other}
use Rattle.vod_grammar.specs.Words.{Is}
use Rattle.vod_grammar.specs.declared.word.Word.TheVariants as word
use Rattle.vod_statement.specs.LeftSide.{IsLval}
use Rattle.vod_statement.specs.LeftSideForm.{lval_form}
use Rattle.vod_statement.specs.StatementForm.{statement_form}
use Rattle.vod_statement.specs.declared.context.Context.TheVariants as context
use Rattle.vod_declaration.specs.Parts.{IsOptional, nothing as no_second, something}
use Rattle.vod_declaration.specs.PartsLaws.{listed_end, is_listed}
use Rattle.vod_parse.specs.Facts.{Facts, Not, Anything, Are, Of}
use Rattle.vod_parse.specs.Processes.{IsEvent, on_edge, IsSecond, second, IsAlways, controlled, IsAssignment, driven, AreAssignments, assignments}
use Rattle.vod_parse.specs.ProcessesForm.{event_form, second_form, always_body, always_form, value_form, assignment_form, assign_form}

pub event_is : Are event_form IsEvent
event_is m _ _ b (led h (changed (a_name k))) = on_edge h k
event_is m _ _ b (unled n (in_turn (a_word h) (changed (a_name k)))) = on_edge h k

pub is_event : Of event_form IsEvent Anything
is_event m _ _ b tt (on_edge {e = edge.Posedge} h k) = led h (changed (a_name k))
is_event m _ _ b tt (on_edge {t = t} {e = edge.Negedge} h k) = unled (λ z. is_word-other word.Posedge word.Negedge t h) (in_turn (a_word h) (changed (a_name k)))

pub second_is : Are second_form (IsOptional IsSecond)
second_is m _ _ b (led h (changed {ts = ts} {x = e} p)) = something (second h (event_is m ts e b p))
second_is m _ _ b (unled n (led h (changed {ts = ts} {x = e} p))) = something (second h (event_is m ts e b p))
second_is m _ _ b (unled n (unled k nothing)) = no_second

pub is_second : Of second_form (IsOptional IsSecond) (λ b. Not word.Or b × Not word.Comma b)
is_second m _ _ b e no_second = unled (λ z. e.0) (unled (λ z. e.1) nothing)
is_second m _ _ b e (something (second {ts = ts} {s = separator.Or} {e = x} h p)) = led h (changed (is_event m ts x b tt p))
is_second m _ _ b e (something (second {t = t} {ts = ts} {s = separator.Comma} {e = x} h p)) = unled (λ z. is_word-other word.Or word.Comma t h) (led h (changed (is_event m ts x b tt p)))

module _ (facts : Facts) (size : ℕ) where
  body_is : (at : ℕ) (sign opener : Lexeme) (ts us : List Lexeme) (e : Event) (s : Option SecondEvent) → Is word.EventControl sign → Is word.OpenParen opener → IsEvent ts e → IsOptional IsSecond us s
      → (m : Sight) (vs : List Lexeme) (x : Always) (b : Option Lexeme) → (always_body size at e s).phrase m vs x b → IsAlways at (sign ∷ opener ∷ (ts ++ (us ++ vs))) x
  body_is at sign opener ts us e s h o p q m _ _ b (in_turn (a_word c) (changed {ts = vs} {x = body} r)) = controlled h o p q c (facts.statement_are context.Always size 64 m vs body b r).is

  pub always_is : (at : ℕ) → Are (always_form size at) (IsAlways at)
  always_is at m _ x b (in_turn (a_word {t = sign} h) (in_turn (a_word {t = opener} o) (in_turn {us = ts} {vs = rest} {x = e} p (in_turn {us = us} {vs = vs} {x = s} q r)))) =
      body_is at sign opener ts us e s h o (event_is m ts e (first rest b) p) (second_is m us s (first vs b) q) m vs x b r

  -- before no `else`, since an `else` would belong to the statement
  pub is_always : (at : ℕ) → Of (always_form size at) (IsAlways at) (Not word.Else)
  is_always at m _ _ b n (controlled {closer = closer} {ts = ts} {us = us} {vs = vs} {e = e} {s = s} {body = body} {open_ended = open_ended} h o p q c r) =
      in_turn (a_word h) (in_turn (a_word o) (in_turn (is_event m ts e (first (us ++ closer ∷ vs) b) tt p)
      (in_turn (is_second m us s (Some closer) (is_word-other word.Or word.CloseParen closer c, is_word-other word.Comma word.CloseParen closer c) q)
      (in_turn (a_word c) (changed (facts.of_statement context.Always size 64 m vs body b (record { open_ended = open_ended; is = r; closed = λ k z. n })))))))

  event_laws : Laws event_form
  event_laws = either_laws word.Posedge _ _ (λ at. mapped_laws _ name_form name_laws) (then_laws (word_form word.Negedge) _ (word_laws word.Negedge) (λ at. mapped_laws _ name_form name_laws))

  second_laws : Laws second_form
  second_laws = either_laws word.Or _ _ (λ _. mapped_laws _ event_form event_laws) (either_laws word.Comma _ _ (λ _. mapped_laws _ event_form event_laws) (give_laws None))

  body_laws : (at : ℕ) (e : Event) (s : Option SecondEvent) → Laws (always_body size at e s)
  body_laws at e s = then_laws (word_form word.CloseParen) _ (word_laws word.CloseParen) (λ _. mapped_laws _ (statement_form context.Always size 64) (facts.statement context.Always size 64))

  pub always_laws : (at : ℕ) → Laws (always_form size at)
  always_laws at =
      then_laws (word_form word.EventControl) _ (word_laws word.EventControl) (λ _. then_laws (word_form word.OpenParen) _ (word_laws word.OpenParen)
      (λ _. then_laws event_form _ event_laws (λ e. then_laws second_form _ second_laws (λ s. body_laws at e s))))

  -- assignments
  driven_is : (ts : List Lexeme) (target : Lval) → IsLval ts target → (m : Sight) (us : List Lexeme) (x : Assignment) (b : Option Lexeme)
      → (value_form target).phrase m us x b → IsAssignment (ts ++ us) x
  driven_is ts target p m _ _ b (in_turn (a_word h) (changed (an_expression q r))) = driven p h q

  assignment_is : Are (assignment_form size) IsAssignment
  assignment_is m _ x b (in_turn {us = ts} {vs = us} {x = target} p q) = driven_is ts target (facts.lval_are size m ts target (first us b) p) m us x b q

  -- before `,` and `;`
  abbrev ReadTo : Option Lexeme → Type 0
  ReadTo b = (m : Sight) (ts : List Lexeme) (x : Expr) → IsExpr 0 ts x → ExpressionPhrase m ts x b

  comma_ends : (t : Lexeme) → Is word.Comma t → ReadTo (Some t)
  comma_ends t h m ts x d = facts.read m ts x word.Comma t d h refl

  semicolon_ends : (t : Lexeme) → Is word.Semicolon t → ReadTo (Some t)
  semicolon_ends t h m ts x d = facts.read m ts x word.Semicolon t d h refl

  is_assignment : Of (assignment_form size) IsAssignment ReadTo
  is_assignment m _ _ b e (driven {equals = equals} {ts = ts} {us = us} {target = target} {value = value} p h q) =
      in_turn (facts.of_lval size m ts target (Some equals) (is_word-other word.OpenBracket word.Equals equals h) p) (in_turn (a_word h) (changed (e m us value q)))

  pub assign_is : Are (assign_form size) AreAssignments
  assign_is = listed_end (assignment_form size) IsAssignment assignment_is (λ xs. xs) AreAssignments (λ ts xs t d h. assignments d h)

  pub is_assign : Of (assign_form size) AreAssignments Anything
  is_assign m _ _ b e (assignments {semicolon = t} {ts = ts} {xs = xs} d h) = is_listed (assignment_form size) IsAssignment ReadTo is_assignment comma_ends (λ xs. xs) m ts xs t b (semicolon_ends t h) d h

  assignment_laws : Laws (assignment_form size)
  assignment_laws =
      then_laws (lval_form size) value_form (facts.lval size)
      (λ target. then_laws (word_form word.Equals) _ (word_laws word.Equals) (λ _. mapped_laws _ expression_form facts.expression))

  pub assign_laws : Laws (assign_form size)
  assign_laws = then_laws (separated (assignment_form size)) _ (separated_laws (assignment_form size) assignment_laws) (λ xs. mapped_laws _ (word_form word.Semicolon) (word_laws word.Semicolon))
