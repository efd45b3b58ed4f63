-- The form of directives is exact.
use Rattle.std.proofs.Common.{◌≡◌, ℕ, true, cond, List, [], ◌∷◌, Option, refl, sym, ◌∙◌, ap, subst, arith}
use Rattle.std.specs.Prelude.{codes}
use Rattle.vod_token.specs.Span.{IsTokenText}
use Rattle.vod_token.specs.declared.TokenKind.{TokenKind}
use Rattle.vod_token.specs.declared.TokenKind.TheVariants as kinds
use Rattle.vod_tree.specs.declared.module.Directive.{Directive}
use Rattle.vod_tree.specs.declared.module.DirectiveKind.{DirectiveKind}
use Rattle.vod_tree.specs.declared.module.DirectiveKind.TheVariants.{DefaultNettype}
use Rattle.vod_tree.specs.declared.module.NetType.TheVariants as net
use Rattle.vod_expr.specs.Grammar.{Lexeme, IsLexeme}
use Rattle.vod_expr.specs.declared.ParseFault.TheVariants.{At}
use Rattle.vod_grammar.specs.Form.{Sight}
use Rattle.vod_grammar.specs.Laws.{Laws}
use Rattle.vod_grammar.specs.Read.{Got, Failed}
use Rattle.vod_grammar.specs.TokenLaws.{OneToken, one_laws}
use Rattle.vod_directive.specs.DirectiveForm.{directive_at, is_directive_kind, starts_directive, DirectivePhrase, a_directive, directive_form}
use Rattle.vod_directive.specs.Meaning.{IsDirective, StandsFor, net_type}
use Rattle.vod_directive.specs.MeaningLaws.{one_meaning, stands_for}

kind_is : (k : TokenKind) → is_directive_kind k ≡ true → k ≡ kinds.Directive
kind_is kinds.Name h = cc
kind_is kinds.Reserved h = cc
kind_is kinds.Number h = cc
kind_is kinds.Directive h = refl
kind_is kinds.Symbol h = cc

-- the token `default_nettype none
some_directive : Lexeme
some_directive = record { kind = kinds.Directive; text = codes "`default_nettype none"; place = 0 }

some_means : StandsFor (codes "`default_nettype none") (DefaultNettype net.None)
some_means = net_type (record {
  gap = codes " ";
  net = codes "none";
  first = omega arith;
  gap_blank = (refl, tt);
  known = (0, omega arith, refl);
  spelled = refl;
}) refl

no_directive : Directive
no_directive = record { place = 0; kind = DefaultNettype net.None }

some_directive-is : IsDirective some_directive no_directive
unfolding some_directive no_directive
some_directive-is = record { kind = refl; place = refl; means = some_means }

-- a token that is spelled as a directive is one, with the tree that the code finds, and with no other
into : (m : Sight) (t : Lexeme) (b : Option Lexeme) → IsLexeme t → starts_directive t ≡ true → DirectivePhrase m (t ∷ []) (directive_at t) b
into m t b own e =
    let k = kind_is t.kind e in
    a_directive (record { kind = k; place = refl; means = stands_for t.text (subst (IsTokenText t.text) k own) })

tree_is : (t : Lexeme) (x : Directive) → IsDirective t x → x ≡ directive_at t
tree_is t x d =
    let tree : ℕ → DirectiveKind → Directive = λ p k. record { place = p; kind = k } in
    ap (λ p. tree p x.kind) d.place ∙ ap (tree t.place) (sym (one_meaning t.text x.kind d.means))

out : (m : Sight) (ts : List Lexeme) (x : Directive) (b : Option Lexeme) → DirectivePhrase m ts x b → (t : Lexeme) × (ts ≡ t ∷ []) × (starts_directive t ≡ true) × (x ≡ directive_at t)
out m ts x b (a_directive {t = t} d) = (t, refl, ap is_directive_kind d.kind, tree_is t x d)

pub phrase_is : (m : Sight) (ts : List Lexeme) (x : Directive) (b : Option Lexeme) → DirectivePhrase m ts x b → (t : Lexeme) × (ts ≡ t ∷ []) × IsDirective t x
phrase_is m _ x b (a_directive {t = t} d) = (t, refl, d)

free : (m n : Sight) (ts : List Lexeme) (x : Directive) (b c : Option Lexeme) → DirectivePhrase m ts x b → DirectivePhrase n ts x c
free m n ts x b c (a_directive d) = a_directive d

pub directive_laws : Laws directive_form
directive_laws = one_laws directive_form starts_directive directive_at (record {
  ended = refl;
  yes = λ t ts e. ap (λ v. cond v (Got (directive_at t) ts) (Failed (At t.place))) e;
  no = λ t ts e. ap (λ v. cond v (Got (directive_at t) ts) (Failed (At t.place))) e;
  into = into;
  out = out;
  free = free;
  example = record { tokens = some_directive ∷ []; value = no_directive; is = a_directive some_directive-is };
  shallow = λ front t d. d;
})
