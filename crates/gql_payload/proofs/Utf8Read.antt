-- The strings and the names of the JSON that a UTF-8 text is are UTF-8.
use Rattle.std.proofs.Common.{◌≡◌, ℕ, zero, suc, ◌+◌, ◌<◌, List, [], ◌∷◌, length, drop, get_or, Bool, true, false, ◌==◌, subst, arith, Option, Some, None, IsUtf8}
use Rattle.std.specs.Prelude.{IfSome, ⊤, option_map, option_and_then}
use Rattle.std.specs.List.{AllByRecursion as Each}
use Rattle.std.specs.declared.cmp.Ordering.{Ordering}
use Rattle.std.specs.declared.cmp.Ordering.TheVariants.{Less, Equal, Greater}
use Rattle.std.specs.Ordering.{nat_cmp, match_ordering}
use Rattle.std.specs.Cmp.Lexicographic.{slice_cmp}
use Rattle.std.proofs.lemmas.Bool.{cond_both, eqb-true}
use Rattle.std.proofs.lemmas.Str.{IsUtf8-drop, IsCharBoundary-after_ascii}
use Rattle.json.specs.Ascii as ascii
use Rattle.json.specs.Token.{Token}
use Rattle.json.specs.Text.{content, plain}
use Rattle.json.specs.Word.{is_operator, is_space, head, ends_word, after_number, number_before, literal, word}
use Rattle.json.specs.Lex.{Lexeme, token, comma, colon, Class, quote, backslash, operator, space, other, class, operator_lexeme, string_token, Mode, between, in_word, in_string, in_escape, lex_byte, lex, Place, fresh, after_value, after_comma, after_key, begins_colon, may_begin, may_close, if_allowed, place_token, punctuate, tokens}
use Rattle.json.specs.Json as tree
use Rattle.json.specs.Json.{Parse, parse_map, after_end_array, read_key, items_step, members_step, value_with}
use Rattle.serde_json.specs.Data.{Num, Data, number, array, object, Items, item, Members, no_members, member, put}
use Rattle.serde_json.specs.Read.{number_of, of_json, of_items, of_members, read, max_depth}
use Rattle.gql_payload.proofs.Utf8.{IsUtf8Data, AreUtf8Items, AreUtf8Members}
use Rattle.gql_payload.proofs.Utf8Content.{IfUtf8, content_utf8}

-- ---- tokens

abbrev TokenText : Token → Type 0
TokenText (Token.key s) = IsUtf8 s
TokenText (Token.string s) = IsUtf8 s
TokenText _ = ⊤

abbrev LexemeText : Lexeme → Type 0
LexemeText (token t) = TokenText t
LexemeText comma = ⊤
LexemeText colon = ⊤

abbrev LexemesText : List Lexeme → Type 0
LexemesText = Each LexemeText

abbrev TokensText : List Token → Type 0
TokensText = Each TokenText

-- what stands behind each ASCII byte is a text
abbrev Clean : List ℕ → Type 0
Clean [] = ⊤
Clean (x ∷ xs) = (x < 128 → IsUtf8 xs) × Clean xs

abbrev Cuts : List ℕ → Type 0
Cuts xs = (i : ℕ) → i < length xs → get_or xs i 0 < 128 → IsUtf8 (drop (i + 1) xs)

clean_by : (xs : List ℕ) → Cuts xs → Clean xs
clean_by [] h = tt
clean_by (x ∷ xs) h = (
  λ small. h 0 (omega arith) small,
  clean_by xs (λ i within small. (let next : suc i + 1 ≡ suc (i + 1) = omega arith in subst (λ (n : ℕ). IsUtf8 (drop n (x ∷ xs))) next (h (suc i) (omega arith) small))),
)

clean_utf8 : (xs : List ℕ) → IsUtf8 xs → Clean xs
clean_utf8 xs h = clean_by xs (λ i within small. IsUtf8-drop xs (i + 1) h (IsCharBoundary-after_ascii xs i h within small))

string_text : (o : Option (List ℕ)) → IfUtf8 o → TokenText (string_token o)
string_text None h = tt
string_text (Some s) h = h

literal_text : (name : List ℕ) (t : Token) (xs : List ℕ) → TokenText t → TokenText (literal name t xs)
literal_text name t xs h = cond_both _ t Token.bad TokenText (λ _. h) (λ _. tt)

number_text : (xs : List ℕ) (o : Option (List ℕ)) → TokenText (number_before xs o)
number_text xs None = tt
number_text xs (Some rest) = cond_both (ends_word rest) _ Token.bad TokenText (λ _. tt) (λ _. tt)

word_text : (xs : List ℕ) → TokenText (word xs)
unfolding word
word_text xs =
    cond_both (head xs == 116) _ _ TokenText (λ _. literal_text ascii.true_text (Token.boolean true) xs tt)
    (λ _. cond_both (head xs == 102) _ _ TokenText (λ _. literal_text ascii.false_text (Token.boolean false) xs tt)
    (λ _. cond_both (head xs == 110) _ _ TokenText (λ _. literal_text ascii.null_text Token.null xs tt) (λ _. number_text xs (after_number xs))))

operator_text : (x : ℕ) → LexemeText (operator_lexeme x)
operator_text x =
    cond_both (x == 123) _ _ LexemeText (λ _. tt)
    (λ _. cond_both (x == 125) _ _ LexemeText (λ _. tt)
    (λ _. cond_both (x == 91) _ _ LexemeText (λ _. tt)
    (λ _. cond_both (x == 93) _ _ LexemeText (λ _. tt)
    (λ _. cond_both (x == 44) comma colon LexemeText (λ _. tt) (λ _. tt)))))

-- a text behind a quote
abbrev BehindQuote : List ℕ → Class → Type 0
BehindQuote xs quote = IsUtf8 xs
BehindQuote xs _ = ⊤

behind_quote : (x : ℕ) (xs : List ℕ) → (x < 128 → IsUtf8 xs) → BehindQuote xs (class x)
behind_quote x xs h =
    cond_both (x == 34) quote _ (BehindQuote xs) (λ e. (let same = eqb-true x 34 e in h (omega (arith, same))))
    (λ _. cond_both (x == 92) backslash _ (BehindQuote xs) (λ _. tt)
    (λ _. cond_both (is_operator x) operator _ (BehindQuote xs) (λ _. tt)
    (λ _. cond_both (is_space x) space other (BehindQuote xs) (λ _. tt) (λ _. tt))))

byte_text : (m : Mode) (c : Class) (x : ℕ) (xs : List ℕ) (k : Mode → List Lexeme) → BehindQuote xs c → ((next : Mode) → LexemesText (k next)) → LexemesText (lex_byte m c x xs k)
byte_text between quote x xs k h more = (string_text (content plain xs) (content_utf8 xs h), more in_string)
byte_text between backslash x xs k h more = (tt, more in_word)
byte_text between operator x xs k h more = (operator_text x, more between)
byte_text between space x xs k h more = more between
byte_text between other x xs k h more = (word_text (x ∷ xs), more in_word)
byte_text in_word quote x xs k h more = more in_word
byte_text in_word backslash x xs k h more = more in_word
byte_text in_word operator x xs k h more = (operator_text x, more between)
byte_text in_word space x xs k h more = more between
byte_text in_word other x xs k h more = more in_word
byte_text in_string quote x xs k h more = more between
byte_text in_string backslash x xs k h more = more in_escape
byte_text in_string operator x xs k h more = more in_string
byte_text in_string space x xs k h more = more in_string
byte_text in_string other x xs k h more = more in_string
byte_text in_escape c x xs k h more = more in_string

lex_text : (m : Mode) (xs : List ℕ) → Clean xs → LexemesText (lex m xs)
unfolding lex
lex_text m [] h = tt
lex_text m (x ∷ xs) h = byte_text m (class x) x xs (λ next. lex next xs) (behind_quote x xs h.0) (λ next. lex_text next xs h.1)

-- ---- commas and colons

allowed_text : (b : Bool) (t : Token) (k : Place → List Token) (next : Place) → TokenText t → ((p : Place) → TokensText (k p)) → TokensText (if_allowed b t k next)
allowed_text true t k next h more = (h, more next)
allowed_text false t k next h more = (tt, tt)

place_text : (p : Place) (t : Token) (b : Bool) (k : Place → List Token) → TokenText t → ((next : Place) → TokensText (k next)) → TokensText (place_token p t b k)
place_text p Token.begin_object b k h more = allowed_text (may_begin p) Token.begin_object k fresh h more
place_text p Token.end_object b k h more = allowed_text (may_close p) Token.end_object k after_value h more
place_text p Token.begin_array b k h more = allowed_text (may_begin p) Token.begin_array k fresh h more
place_text p Token.end_array b k h more = allowed_text (may_close p) Token.end_array k after_value h more
place_text p (Token.key s) b k h more = (tt, tt)
place_text p (Token.string s) true k h more = allowed_text (may_begin p) (Token.key s) k after_key h more
place_text p (Token.string s) false k h more = allowed_text (may_begin p) (Token.string s) k after_value h more
place_text p (Token.number s) b k h more = allowed_text (may_begin p) (Token.number s) k after_value h more
place_text p (Token.boolean x) b k h more = allowed_text (may_begin p) (Token.boolean x) k after_value h more
place_text p Token.null b k h more = allowed_text (may_begin p) Token.null k after_value h more
place_text p Token.bad b k h more = (tt, tt)

punctuate_text : (p : Place) (ls : List Lexeme) → LexemesText ls → TokensText (punctuate p ls)
unfolding punctuate
punctuate_text fresh [] h = tt
punctuate_text after_value [] h = tt
punctuate_text after_comma [] h = (tt, tt)
punctuate_text after_key [] h = (tt, tt)
punctuate_text fresh (token t ∷ ls) h = place_text fresh t (begins_colon ls) (λ next. punctuate next ls) h.0 (λ next. punctuate_text next ls h.1)
punctuate_text after_value (token t ∷ ls) h = place_text after_value t (begins_colon ls) (λ next. punctuate next ls) h.0 (λ next. punctuate_text next ls h.1)
punctuate_text after_comma (token t ∷ ls) h = place_text after_comma t (begins_colon ls) (λ next. punctuate next ls) h.0 (λ next. punctuate_text next ls h.1)
punctuate_text after_key (token t ∷ ls) h = place_text after_key t (begins_colon ls) (λ next. punctuate next ls) h.0 (λ next. punctuate_text next ls h.1)
punctuate_text fresh (comma ∷ ls) h = (tt, tt)
punctuate_text after_value (comma ∷ ls) h = punctuate_text after_comma ls h.1
punctuate_text after_comma (comma ∷ ls) h = (tt, tt)
punctuate_text after_key (comma ∷ ls) h = (tt, tt)
punctuate_text fresh (colon ∷ ls) h = (tt, tt)
punctuate_text after_value (colon ∷ ls) h = (tt, tt)
punctuate_text after_comma (colon ∷ ls) h = (tt, tt)
punctuate_text after_key (colon ∷ ls) h = punctuate_text fresh ls h.1

tokens_text : (xs : List ℕ) → IsUtf8 xs → TokensText (tokens xs)
tokens_text xs h = punctuate_text fresh (lex between xs) (lex_text between xs (clean_utf8 xs h))

-- ---- JSON

abbrev mutual
  JsonText : tree.Json → Type 0
  JsonText tree.null = ⊤
  JsonText (tree.boolean b) = ⊤
  JsonText (tree.number s) = ⊤
  JsonText (tree.string s) = IsUtf8 s
  JsonText (tree.array js) = ItemsText js
  JsonText (tree.object ms) = MembersText ms

  ItemsText : tree.Items → Type 0
  ItemsText tree.no_items = ⊤
  ItemsText (tree.item j js) = JsonText j × ItemsText js

  MembersText : tree.Members → Type 0
  MembersText tree.no_members = ⊤
  MembersText (tree.member k j ms) = IsUtf8 k × JsonText j × MembersText ms

-- what was read, and the tokens behind it
abbrev ReadText : {A : Type 0} (P : A → Type 0) → Option (A × List Token) → Type 0
ReadText P o = IfSome o (λ p. P p.0 × TokensText p.1)

abbrev Parses : {A : Type 0} (P : A → Type 0) → Parse A → Type 0
Parses P parse = (ts : List Token) → TokensText ts → ReadText P (parse ts)

map_text : {A B : Type 0} (P : A → Type 0) (Q : B → Type 0) (f : A → B) (o : Option (A × List Token)) → ((x : A) → P x → Q (f x)) → ReadText P o → ReadText Q (parse_map f o)
map_text P Q f None keeps h = tt
map_text P Q f (Some p) keeps h = (keeps p.0 h.0, h.1)

then_text : {A B : Type 0} (P : A → Type 0) (Q : B → Type 0) (f : A × List Token → Option (B × List Token)) (o : Option (A × List Token)) → ((p : A × List Token) → P p.0 → TokensText p.1 → ReadText Q (f p)) → ReadText P o → ReadText Q (option_and_then f o)
then_text P Q f None keeps h = tt
then_text P Q f (Some p) keeps h = keeps p h.0 h.1

end_text : (ts : List Token) → TokensText ts → IfSome (after_end_array ts) TokensText
end_text [] h = tt
end_text (Token.begin_object ∷ ts) h = tt
end_text (Token.end_object ∷ ts) h = tt
end_text (Token.begin_array ∷ ts) h = tt
end_text (Token.end_array ∷ ts) h = h.1
end_text (Token.key s ∷ ts) h = tt
end_text (Token.string s ∷ ts) h = tt
end_text (Token.number s ∷ ts) h = tt
end_text (Token.boolean b ∷ ts) h = tt
end_text (Token.null ∷ ts) h = tt
end_text (Token.bad ∷ ts) h = tt

key_text : Parses (λ o. IfUtf8 o) read_key
key_text [] h = tt
key_text (Token.begin_object ∷ ts) h = tt
key_text (Token.end_object ∷ ts) h = (tt, h.1)
key_text (Token.begin_array ∷ ts) h = tt
key_text (Token.end_array ∷ ts) h = tt
key_text (Token.key s ∷ ts) h = (h.0, h.1)
key_text (Token.string s ∷ ts) h = tt
key_text (Token.number s ∷ ts) h = tt
key_text (Token.boolean b ∷ ts) h = tt
key_text (Token.null ∷ ts) h = tt
key_text (Token.bad ∷ ts) h = tt

item_text : (value : Parse tree.Json) (more : Parse tree.Items) (ts : List Token) (o : Option (List Token)) → Parses JsonText value → Parses ItemsText more → TokensText ts → IfSome o TokensText → ReadText ItemsText (items_step value more ts o)
item_text value more ts (Some rest) hv hm h k = (tt, k)
item_text value more ts None hv hm h k =
    then_text JsonText ItemsText (λ p. parse_map (tree.item p.0) (more p.1)) (value ts)
    (λ p j behind. map_text ItemsText ItemsText (tree.item p.0) (more p.1) (λ js are. (j, are)) (hm p.1 behind))
    (hv ts h)

items_text : (value : Parse tree.Json) (n : ℕ) → Parses JsonText value → Parses ItemsText (tree.items value n)
unfolding tree.items
items_text value zero hv ts h = tt
items_text value (suc n) hv ts h = item_text value (tree.items value n) ts (after_end_array ts) hv (items_text value n hv) h (end_text ts h)

member_text : (value : Parse tree.Json) (more : Parse tree.Members) (o : Option (List ℕ)) (ts : List Token) → Parses JsonText value → Parses MembersText more → IfUtf8 o → TokensText ts → ReadText MembersText (members_step value more o ts)
member_text value more None ts hv hm k h = (tt, h)
member_text value more (Some name) ts hv hm k h =
    then_text JsonText MembersText (λ p. parse_map (tree.member name p.0) (more p.1)) (value ts)
    (λ p j behind. map_text MembersText MembersText (tree.member name p.0) (more p.1) (λ ms are. (k, j, are)) (hm p.1 behind))
    (hv ts h)

members_text : (value : Parse tree.Json) (n : ℕ) → Parses JsonText value → Parses MembersText (tree.members value n)
unfolding tree.members
members_text value zero hv ts h = tt
members_text value (suc n) hv ts h =
    then_text (λ o. IfUtf8 o) MembersText (λ p. members_step value (tree.members value n) p.0 p.1) (read_key ts)
    (λ p k behind. member_text value (tree.members value n) p.0 p.1 hv (members_text value n hv) k behind)
    (key_text ts h)

with_text : (a : Parse tree.Items) (o : Parse tree.Members) → Parses ItemsText a → Parses MembersText o → Parses JsonText (value_with a o)
with_text a o ha ho [] h = tt
with_text a o ha ho (Token.begin_object ∷ ts) h = map_text MembersText JsonText tree.object (o ts) (λ ms are. are) (ho ts h.1)
with_text a o ha ho (Token.end_object ∷ ts) h = tt
with_text a o ha ho (Token.begin_array ∷ ts) h = map_text ItemsText JsonText tree.array (a ts) (λ js are. are) (ha ts h.1)
with_text a o ha ho (Token.end_array ∷ ts) h = tt
with_text a o ha ho (Token.key s ∷ ts) h = tt
with_text a o ha ho (Token.string s ∷ ts) h = (h.0, h.1)
with_text a o ha ho (Token.number s ∷ ts) h = (tt, h.1)
with_text a o ha ho (Token.boolean b ∷ ts) h = (tt, h.1)
with_text a o ha ho (Token.null ∷ ts) h = (tt, h.1)
with_text a o ha ho (Token.bad ∷ ts) h = tt

value_text : (depth : ℕ) → Parses JsonText (tree.value depth)
unfolding tree.value
value_text zero = with_text (λ ts. None) (λ ts. None) (λ ts h. tt) (λ ts h. tt)
value_text (suc depth) = with_text (λ ts. tree.items (tree.value depth) (length ts) ts) (λ ts. tree.members (tree.value depth) (length ts) ts) (λ ts. items_text (tree.value depth) (length ts) (value_text depth) ts) (λ ts. members_text (tree.value depth) (length ts) (value_text depth) ts)

last_text : (j : tree.Json) (ts : List Token) → JsonText j → IfSome (tree.if_last j ts) JsonText
last_text j [] h = h
last_text j (t ∷ ts) h = tt

-- ---- data

put_by : (o : Ordering) (k l : List ℕ) (d e : Data) (ms : Members) → IsUtf8 k → IsUtf8 l → IsUtf8Data d → IsUtf8Data e → AreUtf8Members ms → AreUtf8Members (put k d ms) → AreUtf8Members (match_ordering o (member k d (member l e ms)) (member l d ms) (member l e (put k d ms)))
put_by Less k l d e ms hk hl hd he hm hp = (hk, hd, (hl, he, hm))
put_by Equal k l d e ms hk hl hd he hm hp = (hl, hd, hm)
put_by Greater k l d e ms hk hl hd he hm hp = (hl, he, hp)

pub put_utf8 : (k : List ℕ) (d : Data) (ms : Members) → IsUtf8 k → IsUtf8Data d → AreUtf8Members ms → AreUtf8Members (put k d ms)
put_utf8 k d no_members hk hd hm = (hk, hd, tt)
put_utf8 k d (member l e ms) hk hd hm = put_by (slice_cmp nat_cmp k l) k l d e ms hk hm.0 hd hm.1 hm.2 (put_utf8 k d ms hk hd hm.2)

any_number : (o : Option Num) → IfSome (option_map number o) IsUtf8Data
any_number None = tt
any_number (Some n) = tt

array_data : (o : Option Items) → IfSome o AreUtf8Items → IfSome (option_map array o) IsUtf8Data
array_data None h = tt
array_data (Some ds) h = h

object_data : (o : Option Members) → IfSome o AreUtf8Members → IfSome (option_map object o) IsUtf8Data
object_data None h = tt
object_data (Some ms) h = h

items_by : (first : Option Data) (more : Option Items) → IfSome first IsUtf8Data → IfSome more AreUtf8Items → IfSome (option_and_then (λ d. option_map (item d) more) first) AreUtf8Items
items_by None more h k = tt
items_by (Some d) None h k = tt
items_by (Some d) (Some ds) h k = (h, k)

members_by : (k : List ℕ) (first : Option Data) (found : Members) (more : Members → Option Members) → IsUtf8 k → IfSome first IsUtf8Data → AreUtf8Members found → ((ms : Members) → AreUtf8Members ms → IfSome (more ms) AreUtf8Members) → IfSome (option_and_then (λ d. more (put k d found)) first) AreUtf8Members
members_by k None found more hk h hf keeps = tt
members_by k (Some d) found more hk h hf keeps = keeps (put k d found) (put_utf8 k d found hk h hf)

mutual
  data_utf8 : (j : tree.Json) → JsonText j → IfSome (of_json j) IsUtf8Data
  data_utf8 tree.null h = tt
  data_utf8 (tree.boolean b) h = tt
  data_utf8 (tree.number s) h = any_number (number_of s)
  data_utf8 (tree.string s) h = h
  data_utf8 (tree.array js) h = array_data (of_items js) (items_utf8 js h)
  data_utf8 (tree.object ms) h = object_data (of_members ms no_members) (members_utf8 ms no_members h tt)

  items_utf8 : (js : tree.Items) → ItemsText js → IfSome (of_items js) AreUtf8Items
  items_utf8 tree.no_items h = tt
  items_utf8 (tree.item j js) h = items_by (of_json j) (of_items js) (data_utf8 j h.0) (items_utf8 js h.1)

  members_utf8 : (ms : tree.Members) (found : Members) → MembersText ms → AreUtf8Members found → IfSome (of_members ms found) AreUtf8Members
  members_utf8 tree.no_members found h k = k
  members_utf8 (tree.member name j ms) found h k = members_by name (of_json j) found (of_members ms) h.0 (data_utf8 j h.1) k (λ with keep. members_utf8 ms with h.2 keep)

-- ---- texts

whole_text : (o : Option (tree.Json × List Token)) → ReadText JsonText o → IfSome (option_and_then of_json (option_and_then (λ p. tree.if_last p.0 p.1) o)) IsUtf8Data
whole_text None h = tt
whole_text (Some p) h = last_data (tree.if_last p.0 p.1) (last_text p.0 p.1 h.0)
  where
    last_data : (o : Option tree.Json) → IfSome o JsonText → IfSome (option_and_then of_json o) IsUtf8Data
    last_data None h = tt
    last_data (Some j) h = data_utf8 j h

pub read_utf8 : (bytes : List ℕ) → IsUtf8 bytes → IfSome (read bytes) IsUtf8Data
read_utf8 bytes h = whole_text (tree.value max_depth (tokens bytes)) (value_text max_depth (tokens bytes) (tokens_text bytes h))
