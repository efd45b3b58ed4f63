-- The readers of the parts of a module look no further than the token at which they stop.
use Rattle.std.proofs.Common.{◌≡◌, List, [], ◌∷◌, refl, ap, Bool, true, false, cond}
use Rattle.vod_thin_syntax.proofs.Steady.{Steady, Example, Shrinks, AllSteady, give_steady, bind_steady, name_steady, choice_steady, choice_shrinks, bind_shrinks}
use Rattle.vod_thin_syntax.proofs.Rounds.{Apart, same_word-refl, many_steady}
use Rattle.vod_thin_syntax.proofs.SameWords.{next_is}
use Rattle.vod_thin_syntax.proofs.Scans.{value_steady}
use Rattle.vod_thin_syntax.specs.Reader.{Got, Refused, Reader, give, choice, word_read, name_read, direction_read, port_read, next_port_read, more_ports, ports_read, digit_read, value_read, wire_read, register_read, assign_read, clock_read, always_read, item_read, items_read, module_read}
use Rattle.vod_thin_syntax.specs.Syntax.{Mark, Fixed, Item, Port}
use Rattle.vod_thin_syntax.specs.declared.words.Word.{Word}
use Rattle.vod_thin_syntax.specs.declared.words.Word.TheVariants as word
use Rattle.vod_thin_syntax.specs.declared.syntax.Direction.TheVariants as direction

word_got : (w : Word) (other : List Mark) → word_read w (Fixed w ∷ other) ≡ Got tt other
word_got w other = ap (λ (b : Bool). cond b (Got tt other) (Refused (Fixed w ∷ other))) (same_word-refl w)

pub word_steady : (w : Word) → Steady (word_read w)
word_steady w = choice_steady ((w, give tt) ∷ []) (record { marks = Fixed w ∷ []; value = tt; goes = word_got w }) (give_steady tt, tt)

word_shrinks : (w : Word) → Shrinks (word_read w)
word_shrinks w = choice_shrinks ((w, give tt) ∷ []) (give_steady tt, tt)

direction_steady : Steady direction_read
direction_steady =
    choice_steady ((word.Input, give direction.Input) ∷ (word.Output, give direction.Output) ∷ [])
    (record { marks = Fixed word.Input ∷ []; value = direction.Input; goes = λ other. refl })
    (give_steady direction.Input, (give_steady direction.Output, tt))

port_steady : Steady port_read
port_steady = bind_steady direction_read _ direction_steady (λ d. bind_steady name_read _ name_steady (λ name. give_steady (record { direction = d; name = name })))

next_port_steady : Steady next_port_read
next_port_steady = bind_steady (word_read word.Comma) _ (word_steady word.Comma) (λ _. port_steady)

pub next_port_shrinks : Shrinks next_port_read
next_port_shrinks = bind_shrinks (word_read word.Comma) _ (word_shrinks word.Comma) (λ _. port_steady)

pub next_port_apart : Apart word.Close next_port_read
next_port_apart ts x rest e h =
    let begun = next_is word.Close ts e in
    let refused : next_port_read ts ≡ Refused (Fixed word.Close ∷ begun.0) = ap next_port_read begun.1 in
    cc

more_ports_steady : (sofar : List Port) → Steady (more_ports sofar)
more_ports_steady sofar = many_steady word.Close next_port_read next_port_steady next_port_shrinks next_port_apart sofar

ports_steady : Steady ports_read
ports_steady = bind_steady port_read _ port_steady (λ port. more_ports_steady (port ∷ []))

digit_steady : Steady digit_read
digit_steady =
    choice_steady ((word.Zero, give false) ∷ (word.One, give true) ∷ [])
    (record { marks = Fixed word.Zero ∷ []; value = false; goes = λ other. refl }) (give_steady false, (give_steady true, tt))

wire_steady : Steady wire_read
wire_steady = bind_steady name_read _ name_steady (λ name. bind_steady (word_read word.Semicolon) _ (word_steady word.Semicolon) (λ _. give_steady _))

register_steady : Steady register_read
register_steady =
    bind_steady name_read _ name_steady (λ name. bind_steady (word_read word.Equals) _ (word_steady word.Equals) (λ _.
    bind_steady digit_read _ digit_steady (λ initial. bind_steady (word_read word.Semicolon) _ (word_steady word.Semicolon) (λ _. give_steady _))))

assign_steady : Steady assign_read
assign_steady =
    bind_steady name_read _ name_steady (λ name. bind_steady (word_read word.Equals) _ (word_steady word.Equals) (λ _.
    bind_steady value_read _ value_steady (λ value. give_steady _)))

clock_steady : Steady clock_read
clock_steady =
    bind_steady (word_read word.Event) _ (word_steady word.Event) (λ _. bind_steady (word_read word.Open) _ (word_steady word.Open) (λ _.
    bind_steady (word_read word.Posedge) _ (word_steady word.Posedge) (λ _. bind_steady name_read _ name_steady (λ clock.
    bind_steady (word_read word.Close) _ (word_steady word.Close) (λ _. give_steady _)))))

always_steady : Steady always_read
always_steady =
    bind_steady clock_read _ clock_steady (λ clock. bind_steady name_read _ name_steady (λ register.
    bind_steady (word_read word.Nonblocking) _ (word_steady word.Nonblocking) (λ _. bind_steady value_read _ value_steady (λ value. give_steady _))))

abbrev item_choices : List (Word × Reader (Item (List Mark)))
item_choices = (word.Wire, wire_read) ∷ (word.Reg, register_read) ∷ (word.Assign, assign_read) ∷ (word.Always, always_read) ∷ []

items_all : AllSteady item_choices
items_all = (wire_steady, (register_steady, (assign_steady, (always_steady, tt))))

item_example : Example (choice item_choices)
item_example =
    let wire = wire_steady.example in
    record { marks = Fixed word.Wire ∷ wire.marks; value = wire.value; goes = wire.goes }

item_steady : Steady item_read
unfolding item_read
item_steady = choice_steady item_choices item_example items_all

pub item_shrinks : Shrinks item_read
unfolding item_read
item_shrinks = choice_shrinks item_choices items_all

pub item_apart : Apart word.Endmodule item_read
unfolding item_read
item_apart ts x rest e h =
    let begun = next_is word.Endmodule ts e in
    let refused : choice item_choices ts ≡ Refused (Fixed word.Endmodule ∷ begun.0) = ap (choice item_choices) begun.1 in
    cc

items_steady : (sofar : List (Item (List Mark))) → Steady (items_read sofar)
items_steady sofar = many_steady word.Endmodule item_read item_steady item_shrinks item_apart sofar

pub module_steady : Steady module_read
unfolding module_read
module_steady =
    bind_steady (word_read word.Module) _ (word_steady word.Module) (λ _. bind_steady name_read _ name_steady (λ name.
    bind_steady (word_read word.Open) _ (word_steady word.Open) (λ _. bind_steady ports_read _ ports_steady (λ ports.
    bind_steady (word_read word.Semicolon) _ (word_steady word.Semicolon) (λ _. bind_steady (items_read []) _ (items_steady []) (λ items. give_steady _))))))
