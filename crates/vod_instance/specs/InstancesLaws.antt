-- The form of instances is exact: its phrases are the instances.
use Rattle.std.proofs.Common.{◌≡◌, ℕ, false, List, [], ◌∷◌, ◌++◌, Option, None, Some, refl, ◌∙◌, ap}
use Rattle.vod_tree.specs.declared.expr.Expr.{Expr}
use Rattle.vod_tree.specs.declared.ident.Ident.{Ident}
use Rattle.vod_tree.specs.declared.instance.Arguments.{Arguments}
use Rattle.vod_tree.specs.declared.instance.Arguments.TheVariants as arguments
use Rattle.vod_tree.specs.declared.instance.Connections.{Connections}
use Rattle.vod_tree.specs.declared.instance.Connections.TheVariants as connections
use Rattle.vod_tree.specs.declared.instance.Instance.{Instance}
use Rattle.vod_tree.specs.declared.instance.Instances.{Instances}
use Rattle.vod_tree.specs.declared.instance.NamedArgument.{NamedArgument}
use Rattle.vod_tree.specs.declared.instance.NamedConnection.{NamedConnection}
use Rattle.vod_expr.specs.Grammar.{Lexeme, IsName, IsExpr, ident_of}
use Rattle.vod_grammar.specs.EitherLaws.{either_laws}
use Rattle.vod_grammar.specs.Form.{Sight, Alone, an_expression, a_word, a_name, nothing, in_turn, changed, led, unled, word_form, name_form, expression_form, give, mapped, separated}
use Rattle.vod_grammar.specs.FrontLaws.{first-append}
use Rattle.vod_grammar.specs.Laws.{Laws, Begun}
use Rattle.vod_grammar.specs.ListLaws.{ReadBefore}
use Rattle.vod_grammar.specs.PartLaws.{mapped_laws, separated_laws}
use Rattle.vod_grammar.specs.Read.{first, passes}
use Rattle.vod_grammar.specs.ThenLaws.{then_laws}
use Rattle.vod_grammar.specs.TokenLaws.{word_laws, name_laws, give_laws, some_name, some_name-is}
use Rattle.vod_grammar.specs.WordLaws.{is_word-other, is_word-name, word_token, word_token-is}
use Rattle.vod_grammar.specs.Words.{Is, is_word}
use Rattle.vod_grammar.specs.declared.word.Word.TheVariants as word
use Rattle.vod_instance.specs.DottedLaws.{named_fit, ordered_fit, named_or_ordered, by_name_or_order_laws, by_name_or_order_shallow}
use Rattle.vod_instance.specs.FirstTokens.{Expressions, expr_first, exprs_first}
use Rattle.vod_instance.specs.Instances.{argument, connection, one_instance, all_instances, IsArgument, assigned, AreArguments, by_order, by_name, IsOverride, without, given, IsConnection, connected, unconnected, AreConnections, no_connection, ports_by_order, ports_by_name, IsInstance, of_name, AreInstances, of_module}
use Rattle.vod_instance.specs.InstancesForm.{argument_behind, argument_form, arguments_form, override_behind, override_form, connected_to, connection_behind, connection_form, some_connections, connections_behind, instance_behind, instance_form, instances_behind, instances_form}
use Rattle.vod_instance.specs.Listed.{AreListed, last, next}
use Rattle.vod_instance.specs.ListedLaws.{Are, Fit, listed_of, of_listed}
use Rattle.vod_instance.specs.ShallowLaws.{Shallow, word_shallow, name_shallow, expression_shallow, give_shallow, mapped_shallow, then_shallow, either_shallow, separated_shallow}

-- phrases of the form are instances
argument_closed : (period t opener : Lexeme) (ts : List Lexeme) (a : Expr) → Is word.Period period → IsName t → Is word.OpenParen opener → IsExpr 0 ts a → (m : Sight) (us : List Lexeme) (x : NamedArgument) (b : Option Lexeme)
    → (mapped (λ _. argument period.place (ident_of t) a) (word_form word.CloseParen)).phrase m us x b → IsArgument (period ∷ t ∷ opener ∷ (ts ++ us)) x
argument_closed period t opener ts a p h o e m _ _ b (changed (a_word c)) = assigned p h o e c

argument_is : Are argument_form IsArgument
argument_is m _ x b (in_turn (a_word {t = period} p) (in_turn (a_name {t = t} h) (in_turn (a_word {t = opener} o) (in_turn {us = ts} {vs = us} {x = a} (an_expression e r) q)))) =
    argument_closed period t opener ts a p h o e m us x b q

arguments_are : Are arguments_form AreArguments
arguments_are = named_or_ordered arguments.Named arguments.Ordered argument_behind IsArgument AreArguments argument_is (λ ts xs d. by_name d) (λ ts xs d. by_order d)

override_closed : (hash opener : Lexeme) (ts : List Lexeme) (y : Arguments) → Is word.Hash hash → Is word.OpenParen opener → AreArguments ts y → (m : Sight) (us : List Lexeme) (x : Option Arguments) (b : Option Lexeme)
    → (mapped (λ _. Some y) (word_form word.CloseParen)).phrase m us x b → IsOverride (hash ∷ opener ∷ (ts ++ us)) x
override_closed hash opener ts y h o d m _ _ b (changed (a_word c)) = given h o d c

override_is : Are override_form IsOverride
override_is m _ x b (led {t = hash} h (in_turn (a_word {t = opener} o) (in_turn {us = ts} {vs = us} {x = y} p q))) = override_closed hash opener ts y h o (arguments_are m ts y (first us b) p) m us x b q
override_is m _ _ b (unled n nothing) = without

connection_closed : (period t opener : Lexeme) (ts : List Lexeme) (a : Expr) → Is word.Period period → IsName t → Is word.OpenParen opener → IsExpr 0 ts a → (m : Sight) (us : List Lexeme) (x : NamedConnection) (b : Option Lexeme)
    → (mapped (λ _. connection period.place (ident_of t) (Some a)) (word_form word.CloseParen)).phrase m us x b → IsConnection (period ∷ t ∷ opener ∷ (ts ++ us)) x
connection_closed period t opener ts a p h o e m _ _ b (changed (a_word c)) = connected p h o e c

connected_is : (period t opener : Lexeme) → Is word.Period period → IsName t → Is word.OpenParen opener → (m : Sight) (ts : List Lexeme) (x : NamedConnection) (b : Option Lexeme)
    → (connected_to period.place (ident_of t)).phrase m ts x b → IsConnection (period ∷ t ∷ opener ∷ ts) x
connected_is period t opener p h o m _ _ b (led c nothing) = unconnected p h o c
connected_is period t opener p h o m _ x b (unled n (in_turn {us = ts} {vs = us} {x = a} (an_expression e r) q)) = connection_closed period t opener ts a p h o e m us x b q

connection_is : Are connection_form IsConnection
connection_is m _ x b (in_turn (a_word {t = period} p) (in_turn (a_name {t = t} h) (in_turn {vs = ts} (a_word {t = opener} o) q))) = connected_is period t opener p h o m ts x b q

some_connections_are : Are some_connections AreConnections
some_connections_are = named_or_ordered connections.Named connections.Ordered connection_behind IsConnection AreConnections connection_is (λ ts xs d. ports_by_name d) (λ ts xs d. ports_by_order d)

instance_closed : (t opener : Lexeme) (ts : List Lexeme) (y : Connections) → IsName t → Is word.OpenParen opener → AreConnections ts y → (m : Sight) (us : List Lexeme) (x : Connections) (b : Option Lexeme)
    → (mapped (λ _. y) (word_form word.CloseParen)).phrase m us x b → IsInstance (t ∷ opener ∷ (ts ++ us)) (one_instance (ident_of t) x)
instance_closed t opener ts y h o d m _ _ b (changed (a_word c)) = of_name h o d c

behind_is : (t opener : Lexeme) → IsName t → Is word.OpenParen opener → (m : Sight) (ts : List Lexeme) (x : Connections) (b : Option Lexeme) → connections_behind.phrase m ts x b
    → IsInstance (t ∷ opener ∷ ts) (one_instance (ident_of t) x)
behind_is t opener h o m _ _ b (led c nothing) = of_name h o no_connection c
behind_is t opener h o m _ x b (unled n (in_turn {us = ts} {vs = us} {x = y} p q)) = instance_closed t opener ts y h o (some_connections_are m ts y (first us b) p) m us x b q

named_is : (t : Lexeme) → IsName t → (m : Sight) (ts : List Lexeme) (x : Instance) (b : Option Lexeme) → (instance_behind (ident_of t)).phrase m ts x b → IsInstance (t ∷ ts) x
named_is t h m _ _ b (in_turn (a_word {t = opener} o) (changed {ts = ts} {x = y} p)) = behind_is t opener h o m ts y b p

pub instance_is : Are instance_form IsInstance
instance_is m _ x b (in_turn {vs = ts} (a_name {t = t} h) q) = named_is t h m ts x b q

instances_closed : (t : Lexeme) (ts us : List Lexeme) (y : Option Arguments) (xs : List Instance) → IsName t → IsOverride ts y → AreListed IsInstance us xs → (m : Sight) (vs : List Lexeme) (x : Instances) (b : Option Lexeme)
    → (mapped (λ _. all_instances (ident_of t) y xs) (word_form word.Semicolon)).phrase m vs x b → AreInstances (t ∷ (ts ++ (us ++ vs))) x
instances_closed t ts us y xs h o d m _ _ b (changed (a_word s)) = of_module h o d s

module_is : (t : Lexeme) → IsName t → (m : Sight) (ts : List Lexeme) (x : Instances) (b : Option Lexeme) → (instances_behind (ident_of t)).phrase m ts x b → AreInstances (t ∷ ts) x
module_is t h m _ x b (in_turn {us = ts} {x = y} p (in_turn {us = us} {vs = vs} {x = xs} q r)) =
    instances_closed t ts us y xs h (override_is m ts y (first (us ++ vs) b) p) (listed_of instance_form IsInstance instance_is m us xs (first vs b) q) m vs x b r

pub instances_are : Are instances_form AreInstances
instances_are m _ x b (in_turn {vs = ts} (a_name {t = t} h) q) = module_is t h m ts x b q

-- instances are phrases of the form
instances_hash : (ts : List Lexeme) (xs : List Instance) (b : Option Lexeme) → AreListed IsInstance ts xs → passes (is_word word.Hash) (first ts b) ≡ false
instances_hash _ _ b (last (of_name {t = t} h o d c)) = is_word-name word.Hash t h
instances_hash _ _ b (next (of_name {t = t} h o d c) k ds) = is_word-name word.Hash t h

module _ (read : ReadBefore) (known : Expressions) where
  argument_fit : Fit argument_form IsArgument
  argument_fit m _ _ b (assigned {closer = closer} {ts = ts} {a = a} p h o e c) =
      in_turn (a_word p) (in_turn (a_name h) (in_turn (a_word o) (in_turn (read m ts a word.CloseParen closer e c refl) (changed (a_word c)))))

  arguments_fit : (m : Sight) (ts : List Lexeme) (x : Arguments) (closer : Lexeme) → Is word.CloseParen closer → AreArguments ts x → arguments_form.phrase m ts x (Some closer)
  arguments_fit m ts _ closer c (by_order {xs = xs} d) = ordered_fit arguments.Named arguments.Ordered argument_behind read known m ts xs closer c d
  arguments_fit m ts _ closer c (by_name {xs = xs} d) = named_fit arguments.Named arguments.Ordered argument_behind IsArgument AreArguments argument_fit m ts xs closer c d

  override_fit : (m : Sight) (ts : List Lexeme) (x : Option Arguments) (b : Option Lexeme) → passes (is_word word.Hash) b ≡ false → IsOverride ts x → override_form.phrase m ts x b
  override_fit m _ _ b n without = unled (λ z. n) nothing
  override_fit m _ _ b n (given {closer = closer} {ts = ts} {x = x} h o d c) = led h (in_turn (a_word o) (in_turn (arguments_fit m ts x closer c d) (changed (a_word c))))

  connection_fit : Fit connection_form IsConnection
  connection_fit m _ _ b (connected {closer = closer} {ts = ts} {a = a} p h o e c) =
      in_turn (a_word p) (in_turn (a_name h) (in_turn (a_word o)
      (unled (λ z. ap (passes (is_word word.CloseParen)) (first-append ts (closer ∷ []) b) ∙ expr_first known word.CloseParen refl refl ts a (Some closer) e)
      (in_turn (read m ts a word.CloseParen closer e c refl) (changed (a_word c))))))
  connection_fit m _ _ b (unconnected p h o c) = in_turn (a_word p) (in_turn (a_name h) (in_turn (a_word o) (led c nothing)))

  -- a list by name begins with `.`
  dotted_first : (ts : List Lexeme) (xs : List NamedConnection) (b : Option Lexeme) → AreListed IsConnection ts xs → passes (is_word word.CloseParen) (first ts b) ≡ false
  dotted_first _ _ b (last (connected {period = period} p h o e c)) = is_word-other word.CloseParen word.Period period p
  dotted_first _ _ b (last (unconnected {period = period} p h o c)) = is_word-other word.CloseParen word.Period period p
  dotted_first _ _ b (next (connected {period = period} p h o e c) k ds) = is_word-other word.CloseParen word.Period period p
  dotted_first _ _ b (next (unconnected {period = period} p h o c) k ds) = is_word-other word.CloseParen word.Period period p

  connections_fit : (m : Sight) (ts : List Lexeme) (x : Connections) (closer : Lexeme) (b : Option Lexeme) → Is word.CloseParen closer → AreConnections ts x → connections_behind.phrase m (ts ++ closer ∷ []) x b
  connections_fit m _ _ closer b c no_connection = led c nothing
  connections_fit m ts _ closer b c (ports_by_order {xs = xs} d) =
      unled (λ z. ap (passes (is_word word.CloseParen)) (first-append ts (closer ∷ []) b) ∙ exprs_first known word.CloseParen refl refl ts xs (Some closer) d)
      (in_turn (ordered_fit connections.Named connections.Ordered connection_behind read known m ts xs closer c d) (changed (a_word c)))
  connections_fit m ts _ closer b c (ports_by_name {xs = xs} d) =
      unled (λ z. ap (passes (is_word word.CloseParen)) (first-append ts (closer ∷ []) b) ∙ dotted_first ts xs (Some closer) d)
      (in_turn (named_fit connections.Named connections.Ordered connection_behind IsConnection AreConnections connection_fit m ts xs closer c d) (changed (a_word c)))

  instance_fit : Fit instance_form IsInstance
  instance_fit m _ _ b (of_name {closer = closer} {ts = ts} {x = x} h o d c) = in_turn (a_name h) (in_turn (a_word o) (changed (connections_fit m ts x closer b c d)))

  pub instances_fit : Fit instances_form AreInstances
  instances_fit m _ _ b (of_module {semicolon = semicolon} {ts = ts} {us = us} {x = x} {xs = xs} h o d s) =
      in_turn (a_name h)
      (in_turn (override_fit m ts x (first (us ++ semicolon ∷ []) b) (ap (passes (is_word word.Hash)) (first-append us (semicolon ∷ []) b) ∙ instances_hash us xs (Some semicolon) d) o)
      (in_turn (of_listed instance_form IsInstance instance_fit m us xs (Some semicolon) (is_word-other word.Comma word.Semicolon semicolon s) d) (changed (a_word s))))

  -- how instances begin: `NAME u ( ) ;`
  pub instances_begin : (t : Lexeme) → IsName t → Begun instances_form.phrase (t ∷ [])
  instances_begin t h = record {
    more = some_name ∷ word_token word.OpenParen ∷ word_token word.CloseParen ∷ word_token word.Semicolon ∷ [];
    value = _;
    is = instances_fit Alone _ _ None
        (of_module h without (last (of_name some_name-is (word_token-is word.OpenParen) no_connection (word_token-is word.CloseParen))) (word_token-is word.Semicolon));
  }

pub instances_first : (ts : List Lexeme) (x : Instances) → AreInstances ts x → (t : Lexeme) × (us : List Lexeme) × (ts ≡ t ∷ us) × IsName t
instances_first _ _ (of_module {t = t} h o d s) = (t, _, refl, h)

-- the laws of the form
module _ (le : Laws expression_form) where
  argument_behind_laws : (place : ℕ) → Laws (argument_behind place)
  argument_behind_laws place =
      then_laws name_form _ name_laws (λ name. then_laws (word_form word.OpenParen) _ (word_laws word.OpenParen)
      (λ _. then_laws expression_form _ le (λ a. mapped_laws _ (word_form word.CloseParen) (word_laws word.CloseParen))))

  arguments_laws : Laws arguments_form
  arguments_laws = by_name_or_order_laws arguments.Named arguments.Ordered argument_behind le argument_behind_laws

  override_laws : Laws override_form
  override_laws =
      either_laws word.Hash (λ _. override_behind) (give None)
      (λ _. then_laws (word_form word.OpenParen) _ (word_laws word.OpenParen)
      (λ _. then_laws arguments_form _ arguments_laws (λ x. mapped_laws _ (word_form word.CloseParen) (word_laws word.CloseParen))))
      (give_laws None)

  connected_laws : (place : ℕ) (name : Ident) → Laws (connected_to place name)
  connected_laws place name =
      either_laws word.CloseParen _ _ (λ _. give_laws _)
      (then_laws expression_form _ le (λ a. mapped_laws _ (word_form word.CloseParen) (word_laws word.CloseParen)))

  connection_behind_laws : (place : ℕ) → Laws (connection_behind place)
  connection_behind_laws place = then_laws name_form _ name_laws (λ name. then_laws (word_form word.OpenParen) _ (word_laws word.OpenParen) (λ _. connected_laws place name))

  some_connections_laws : Laws some_connections
  some_connections_laws = by_name_or_order_laws connections.Named connections.Ordered connection_behind le connection_behind_laws

  connections_behind_laws : Laws connections_behind
  connections_behind_laws =
      either_laws word.CloseParen _ _ (λ _. give_laws _)
      (then_laws some_connections _ some_connections_laws (λ x. mapped_laws _ (word_form word.CloseParen) (word_laws word.CloseParen)))

  instance_laws : Laws instance_form
  instance_laws = then_laws name_form instance_behind name_laws (λ name. then_laws (word_form word.OpenParen) _ (word_laws word.OpenParen) (λ _. mapped_laws _ connections_behind connections_behind_laws))

  instances_behind_laws : (name : Ident) → Laws (instances_behind name)
  instances_behind_laws name =
      then_laws override_form _ override_laws
      (λ x. then_laws (separated instance_form) _ (separated_laws instance_form instance_laws) (λ xs. mapped_laws _ (word_form word.Semicolon) (word_laws word.Semicolon)))

  pub instances_laws : Laws instances_form
  instances_laws = then_laws name_form instances_behind name_laws instances_behind_laws

-- nothing in it is nested too deep
argument_behind_shallow : (place : ℕ) → Shallow (argument_behind place)
argument_behind_shallow place =
    then_shallow name_form _ name_shallow (λ name. then_shallow (word_form word.OpenParen) _ (word_shallow word.OpenParen)
    (λ _. then_shallow expression_form _ expression_shallow (λ a. mapped_shallow _ (word_form word.CloseParen) (word_shallow word.CloseParen))))

arguments_shallow : Shallow arguments_form
arguments_shallow = by_name_or_order_shallow arguments.Named arguments.Ordered argument_behind argument_behind_shallow

override_shallow : Shallow override_form
override_shallow =
    either_shallow word.Hash (λ _. override_behind) (give None)
    (λ _. then_shallow (word_form word.OpenParen) _ (word_shallow word.OpenParen)
    (λ _. then_shallow arguments_form _ arguments_shallow (λ x. mapped_shallow _ (word_form word.CloseParen) (word_shallow word.CloseParen))))
    (give_shallow None)

connected_shallow : (place : ℕ) (name : Ident) → Shallow (connected_to place name)
connected_shallow place name =
    either_shallow word.CloseParen _ _ (λ _. give_shallow _)
    (then_shallow expression_form _ expression_shallow (λ a. mapped_shallow _ (word_form word.CloseParen) (word_shallow word.CloseParen)))

connection_behind_shallow : (place : ℕ) → Shallow (connection_behind place)
connection_behind_shallow place =
    then_shallow name_form _ name_shallow (λ name. then_shallow (word_form word.OpenParen) _ (word_shallow word.OpenParen) (λ _. connected_shallow place name))

some_connections_shallow : Shallow some_connections
some_connections_shallow = by_name_or_order_shallow connections.Named connections.Ordered connection_behind connection_behind_shallow

connections_behind_shallow : Shallow connections_behind
connections_behind_shallow =
    either_shallow word.CloseParen _ _ (λ _. give_shallow _)
    (then_shallow some_connections _ some_connections_shallow (λ x. mapped_shallow _ (word_form word.CloseParen) (word_shallow word.CloseParen)))

instance_shallow : Shallow instance_form
instance_shallow =
    then_shallow name_form instance_behind name_shallow
    (λ name. then_shallow (word_form word.OpenParen) _ (word_shallow word.OpenParen) (λ _. mapped_shallow _ connections_behind connections_behind_shallow))

instances_behind_shallow : (name : Ident) → Shallow (instances_behind name)
instances_behind_shallow name =
    then_shallow override_form _ override_shallow
    (λ x. then_shallow (separated instance_form) _ (separated_shallow instance_form instance_shallow) (λ xs. mapped_shallow _ (word_form word.Semicolon) (word_shallow word.Semicolon)))

pub instances_shallow : Shallow instances_form
instances_shallow = then_shallow name_form instances_behind name_shallow instances_behind_shallow
