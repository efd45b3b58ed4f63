-- A module read from the front of some tokens: what is read, and where the tokens can't go on.
use Rattle.std.specs.Prelude.{ℕ, zero, suc, ◌+◌, ◌==◌, Bool, true, false, ◌&&◌, List, [], ◌∷◌, ◌++◌, length, Option, None, Some, if◌then◌else◌}
use Rattle.vod_thin_syntax.specs.declared.words.Word.{Word}
use Rattle.vod_thin_syntax.specs.declared.words.Word.TheVariants as word
use Rattle.vod_thin_syntax.specs.declared.syntax.Direction.{Direction}
use Rattle.vod_thin_syntax.specs.declared.syntax.Direction.TheVariants as direction
use Rattle.vod_thin_syntax.specs.declared.scan.Head.{Head}
use Rattle.vod_thin_syntax.specs.declared.scan.Head.TheVariants as head
use Rattle.vod_thin_syntax.specs.declared.scan.Scan.{Scan}
use Rattle.vod_thin_syntax.specs.Syntax.{Name, Mark, Named, Fixed, Item, Wire, Register, Assign, Always, Port, Module}

-- what was read and the tokens behind it, or the tokens from the first on that can't stand there
pub data Read (A : Type 0) : Type 0 where
  Got : A → List Mark → Read A
  Refused : List Mark → Read A

abbrev pub Reader : Type 0 → Type 0
Reader A = List Mark → Read A

abbrev pub followed : {A B : Type 0} → Read A → (A → Reader B) → Read B
followed (Got x rest) next = next x rest
followed (Refused rest) next = Refused rest

-- one reader, and behind it another
abbrev pub bind : {A B : Type 0} → Reader A → (A → Reader B) → Reader B
bind read next ts = followed (read ts) next

-- no token is read
abbrev pub give : {A : Type 0} → A → Reader A
give x ts = Got x ts

-- the number of a word, by which words are told apart
abbrev pub number_of : Word → ℕ
number_of word.Module = 0
number_of word.Input = 1
number_of word.Output = 2
number_of word.Wire = 3
number_of word.Reg = 4
number_of word.Assign = 5
number_of word.Always = 6
number_of word.Posedge = 7
number_of word.Endmodule = 8
number_of word.Zero = 9
number_of word.One = 10
number_of word.Open = 11
number_of word.Close = 12
number_of word.Comma = 13
number_of word.Semicolon = 14
number_of word.Equals = 15
number_of word.And = 16
number_of word.Xor = 17
number_of word.Or = 18
number_of word.Not = 19
number_of word.Event = 20
number_of word.Nonblocking = 21

abbrev pub same_word : Word → Word → Bool
same_word a b = number_of a == number_of b

-- the word, number or symbol that comes first
abbrev pub first_word : List Mark → Option Word
first_word [] = None
first_word (Named name ∷ ts) = None
first_word (Fixed w ∷ ts) = Some w

abbrev pub is_word : Word → Option Word → Bool
is_word wanted None = false
is_word wanted (Some w) = same_word w wanted

abbrev pub is_next : Word → List Mark → Bool
is_next wanted ts = is_word wanted (first_word ts)

abbrev pub rest_of : List Mark → List Mark
rest_of [] = []
rest_of (t ∷ ts) = ts

-- what a word begins, of several
abbrev pub choice : {A : Type 0} → List (Word × Reader A) → Reader A
choice [] ts = Refused ts
choice (entry ∷ entries) ts = if is_next entry.0 ts then entry.1 (rest_of ts) else choice entries ts

-- a word
abbrev pub word_read : Word → Reader (Unit {0})
word_read w = choice ((w, give tt) ∷ [])

abbrev pub name_read : Reader Name
name_read [] = Refused []
name_read (Named name ∷ ts) = Got name ts
name_read (Fixed w ∷ ts) = Refused (Fixed w ∷ ts)

-- parts behind those that were read, up to a word; each has a token at least, so one round more than there are tokens is enough
abbrev pub many_within : {A : Type 0} → ℕ → Word → Reader A → List A → Reader (List A)
many_within zero stop read sofar ts = Refused ts
many_within (suc rounds) stop read sofar ts =
    if is_next stop ts then Got sofar (rest_of ts)
    else followed (read ts) (λ x rest. many_within rounds stop read (sofar ++ x ∷ []) rest)

unfoldable pub many : {A : Type 0} → Word → Reader A → List A → Reader (List A)
many stop read sofar ts = many_within (suc (length ts)) stop read sofar ts

abbrev pub direction_read : Reader Direction
direction_read = choice ((word.Input, give direction.Input) ∷ (word.Output, give direction.Output) ∷ [])

abbrev pub port_read : Reader Port
port_read = bind direction_read (λ d. bind name_read (λ name. give (record { direction = d; name = name })))

abbrev pub next_port_read : Reader Port
next_port_read = bind (word_read word.Comma) (λ _. port_read)

abbrev pub more_ports : List Port → Reader (List Port)
more_ports = many word.Close next_port_read

abbrev pub ports_read : Reader (List Port)
ports_read = bind port_read (λ port. more_ports (port ∷ []))

abbrev pub digit_read : Reader Bool
digit_read = choice ((word.Zero, give false) ∷ (word.One, give true) ∷ [])

-- what of a value may stand behind a token: a name ends an operand
abbrev pub after_name : Head → ℕ → Option Scan
after_name head.Operand depth = Some (record { head = head.Behind; depth = depth })
after_name head.Inverted depth = Some (record { head = head.Behind; depth = depth })
after_name head.Behind depth = None

-- before an operand, behind its `~`, and behind it
abbrev pub after_operand_word : Word → ℕ → Option Scan
after_operand_word word.Not depth = Some (record { head = head.Inverted; depth = depth })
after_operand_word word.Open depth = Some (record { head = head.Operand; depth = depth + 1 })
after_operand_word _ depth = None

abbrev pub after_inverted_word : Word → ℕ → Option Scan
after_inverted_word word.Open depth = Some (record { head = head.Operand; depth = depth + 1 })
after_inverted_word _ depth = None

abbrev pub closed : ℕ → Option Scan
closed zero = None
closed (suc depth) = Some (record { head = head.Behind; depth = depth })

abbrev pub after_behind_word : Word → ℕ → Option Scan
after_behind_word word.And depth = Some (record { head = head.Operand; depth = depth })
after_behind_word word.Xor depth = Some (record { head = head.Operand; depth = depth })
after_behind_word word.Or depth = Some (record { head = head.Operand; depth = depth })
after_behind_word word.Close depth = closed depth
after_behind_word _ depth = None

abbrev pub after_word : Head → Word → ℕ → Option Scan
after_word head.Operand w depth = after_operand_word w depth
after_word head.Inverted w depth = after_inverted_word w depth
after_word head.Behind w depth = after_behind_word w depth

abbrev pub after_first : Option Word → Scan → Option Scan
after_first None s = after_name s.head s.depth
after_first (Some w) s = after_word s.head w s.depth

abbrev pub after_mark : Mark → Scan → Option Scan
after_mark (Named name) s = after_name s.head s.depth
after_mark (Fixed w) s = after_word s.head w s.depth

-- a value is whole: it may end
abbrev pub is_behind : Head → Bool
is_behind head.Operand = false
is_behind head.Inverted = false
is_behind head.Behind = true

abbrev pub may_end : Scan → Bool
may_end s = if is_behind s.head then s.depth == 0 else false

-- one token of a value
abbrev pub step_by : Option Scan → Mark → Reader Scan
step_by None t ts = Refused (t ∷ ts)
step_by (Some next) t ts = Got next ts

abbrev pub step_read : Scan → Reader Scan
step_read s [] = Refused []
step_read s (t ∷ ts) = step_by (after_mark t s) t ts

abbrev pub goes_on : Option Scan → List Mark → (Scan → Read (List Mark)) → Read (List Mark)
goes_on None ts next = Refused ts
goes_on (Some s) ts next = next s

-- the tokens of a value, up to its `;`
abbrev pub scan_read : Scan → List Mark → Reader (List Mark)
scan_read s sofar [] = Refused []
scan_read s sofar (t ∷ ts) =
    if is_next word.Semicolon (t ∷ ts) && may_end s then Got sofar ts
    else goes_on (after_mark t s) (t ∷ ts) (λ next. scan_read next (sofar ++ t ∷ []) ts)

unfoldable pub value_read : Reader (List Mark)
value_read ts = scan_read (record { head = head.Operand; depth = 0 }) [] ts

abbrev pub wire_read : Reader (Item (List Mark))
wire_read = bind name_read (λ name. bind (word_read word.Semicolon) (λ _. give (Wire name)))

abbrev pub register_read : Reader (Item (List Mark))
register_read =
    bind name_read (λ name. bind (word_read word.Equals) (λ _. bind digit_read (λ initial. bind (word_read word.Semicolon) (λ _. give (Register name initial)))))

abbrev pub assign_read : Reader (Item (List Mark))
assign_read = bind name_read (λ target. bind (word_read word.Equals) (λ _. bind value_read (λ value. give (Assign target value))))

-- `@(posedge CLOCK)`
abbrev pub clock_read : Reader Name
clock_read =
    bind (word_read word.Event) (λ _. bind (word_read word.Open) (λ _. bind (word_read word.Posedge) (λ _.
    bind name_read (λ clock. bind (word_read word.Close) (λ _. give clock)))))

abbrev pub always_read : Reader (Item (List Mark))
always_read =
    bind clock_read (λ clock. bind name_read (λ register. bind (word_read word.Nonblocking) (λ _. bind value_read (λ value.
    give (Always clock register value)))))

unfoldable pub item_read : Reader (Item (List Mark))
item_read ts = choice ((word.Wire, wire_read) ∷ (word.Reg, register_read) ∷ (word.Assign, assign_read) ∷ (word.Always, always_read) ∷ []) ts

abbrev pub items_read : List (Item (List Mark)) → Reader (List (Item (List Mark)))
items_read = many word.Endmodule item_read

unfoldable pub module_read : Reader (Module (List Mark))
module_read ts =
    bind (word_read word.Module) (λ _. bind name_read (λ name. bind (word_read word.Open) (λ _. bind ports_read (λ ports.
    bind (word_read word.Semicolon) (λ _. bind (items_read []) (λ items.
    give (record { name = name; ports = ports; items = items }))))))) ts
