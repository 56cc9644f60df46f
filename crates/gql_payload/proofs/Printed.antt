-- The compact text of a datum is read back as the datum.
use Rattle.std.proofs.Common.{◌≡◌, ℕ, suc, ◌^◌, ◌<◌, ◌≤◌, max, List, [], ◌∷◌, refl, sym, ◌∙◌, ap, ap₂, Some, Less, Greater, nat_cmp, append-nil, arith, cond, false, ◌==◌, get_or, drop, decimal, ne_eqb}
use Rattle.std.proofs.lemmas.Fmt.{first_decimal}
use Rattle.std.specs.Fmt.{signed_decimal}
use Rattle.json.specs.Print.{IsNumber}
use Rattle.json.specs.Word.{head, after_whole, after_fraction, after_exponent, after_number}
use Rattle.std.specs.Prelude.{pos, negsuc, ⊤, option_map, option_and_then}
use Rattle.std.specs.Ordering.{ordering_reverse}
use Rattle.std.specs.Cmp.Lexicographic.{slice_cmp, nat_list_cmp_total}
use Rattle.json.specs.Json as tree
use Rattle.json.specs.Lex.{tokens}
use Rattle.json.specs.Tree.{json_tokens, HasNumbers, ItemsHaveNumbers, MembersHaveNumbers}
use Rattle.json.specs.Tree as tree_depth
use Rattle.json.proofs.Printed.Decimals.{IsNumber-decimal}
use Rattle.json.proofs.Printed.Tokens.{tokens-print}
use Rattle.json.proofs.Printed.Trees.{value-json_tokens, ArePrintable-json_tokens}
use Rattle.serde_json.specs.Data.{Num, unsigned, negative, float, Data, null, boolean, number, string, array, object, Items, no_items, item, Members, no_members, member, put, depth, items_depth, members_depth}
use Rattle.serde_json.specs.Read.{of_json, of_items, of_members, read, max_depth}
use Rattle.serde_json.specs.Written.{outline, items_outline, members_outline, compact_text}
use Rattle.serde_json.proofs.Numbers.{number_of-decimal, number_of-negative}
use Rattle.serde_json.proofs.Texts.{print-outline}

-- an integer that the reader knows
abbrev pub IsReadable : Num → Type 0
IsReadable (unsigned n) = n < 2 ^ 64
IsReadable (negative (pos n)) = ⊥
IsReadable (negative (negsuc n)) = n < 2 ^ 63
IsReadable (float x) = ⊥

-- the name comes before all of the members
abbrev pub Leads : List ℕ → Members → Type 0
Leads k no_members = ⊤
Leads k (member l d ms) = (slice_cmp nat_cmp k l ≡ Less) × Leads k ms

-- integers that the reader knows, and members in the order of their names
abbrev mutual
  pub IsOrderly : Data → Type 0
  IsOrderly null = ⊤
  IsOrderly (boolean b) = ⊤
  IsOrderly (number n) = IsReadable n
  IsOrderly (string s) = ⊤
  IsOrderly (array ds) = AreOrderlyItems ds
  IsOrderly (object ms) = AreOrderlyMembers ms

  pub AreOrderlyItems : Items → Type 0
  AreOrderlyItems no_items = ⊤
  AreOrderlyItems (item d ds) = IsOrderly d × AreOrderlyItems ds

  pub AreOrderlyMembers : Members → Type 0
  AreOrderlyMembers no_members = ⊤
  AreOrderlyMembers (member k d ms) = IsOrderly d × Leads k ms × AreOrderlyMembers ms

-- ---- the text as tokens, and as JSON

mutual
  depth_outline : (d : Data) → tree_depth.depth (outline d) ≡ depth d
  depth_outline null = refl
  depth_outline (boolean b) = refl
  depth_outline (number n) = refl
  depth_outline (string s) = refl
  depth_outline (array ds) = ap suc (items_depth_outline ds)
  depth_outline (object ms) = ap suc (members_depth_outline ms)

  items_depth_outline : (ds : Items) → tree_depth.items_depth (items_outline ds) ≡ items_depth ds
  items_depth_outline no_items = refl
  items_depth_outline (item d ds) = ap₂ max (depth_outline d) (items_depth_outline ds)

  members_depth_outline : (ms : Members) → tree_depth.members_depth (members_outline ms) ≡ members_depth ms
  members_depth_outline no_members = refl
  members_depth_outline (member k d ms) = ap₂ max (depth_outline d) (members_depth_outline ms)

no_minus : (s : List ℕ) → 48 < get_or s 0 0 → (head s == 45) ≡ false
no_minus [] h = absurd (omega arith)
no_minus (d ∷ ds) h = ne_eqb d 45 (λ e. omega arith)

-- a number with a minus before it
IsNumber-negative : (n : ℕ) → n < 2 ^ 63 → IsNumber (signed_decimal (negsuc n))
unfolding after_number
IsNumber-negative n h =
    let s = decimal (suc n) in
    let some : 0 < suc n = omega arith in
    let fits : suc n < 2 ^ 64 = omega arith in
    let first : 48 < get_or s 0 0 = first_decimal (suc n) some fits in
    sym (ap (λ b. option_and_then after_exponent (option_and_then after_fraction (after_whole (cond b (drop 1 s) s)))) (no_minus s first)) ∙ IsNumber-decimal (suc n) fits

mutual
  has_numbers : (d : Data) → IsOrderly d → HasNumbers (outline d)
  has_numbers null h = tt
  has_numbers (boolean b) h = tt
  has_numbers (number (unsigned n)) h = IsNumber-decimal n h
  has_numbers (number (negative (pos n))) h = absurd h
  has_numbers (number (negative (negsuc n))) h = IsNumber-negative n h
  has_numbers (number (float x)) h = absurd h
  has_numbers (string s) h = tt
  has_numbers (array ds) h = items_have_numbers ds h
  has_numbers (object ms) h = members_have_numbers ms h

  items_have_numbers : (ds : Items) → AreOrderlyItems ds → ItemsHaveNumbers (items_outline ds)
  items_have_numbers no_items h = tt
  items_have_numbers (item d ds) h = (has_numbers d h.0, items_have_numbers ds h.1)

  members_have_numbers : (ms : Members) → AreOrderlyMembers ms → MembersHaveNumbers (members_outline ms)
  members_have_numbers no_members h = tt
  members_have_numbers (member k d ms) h = (has_numbers d h.0, members_have_numbers ms h.2)

-- ---- members that are put in at the end

abbrev joined : Members → Members → Members
joined no_members ms = ms
joined (member k d found) ms = member k d (joined found ms)

-- the name comes after all of the members
abbrev Trails : Members → List ℕ → Type 0
Trails no_members k = ⊤
Trails (member l d found) k = (slice_cmp nat_cmp k l ≡ Greater) × Trails found k

-- each name comes after all of those found
abbrev Follows : Members → Members → Type 0
Follows found no_members = ⊤
Follows found (member k d ms) = Trails found k × Follows found ms

put-joined : (found : Members) (k : List ℕ) (d : Data) → Trails found k → put k d found ≡ joined found (member k d no_members)
put-joined no_members k d h = refl
put-joined (member l e found) k d h = rw h.0 (ap (member l e) (put-joined found k d h.1))

joined-one : (found : Members) (k : List ℕ) (d : Data) (ms : Members) → joined (joined found (member k d no_members)) ms ≡ joined found (member k d ms)
joined-one no_members k d ms = refl
joined-one (member l e found) k d ms = ap (member l e) (joined-one found k d ms)

trails_one : (found : Members) (k : List ℕ) (d : Data) (l : List ℕ) → Trails found l → slice_cmp nat_cmp l k ≡ Greater → Trails (joined found (member k d no_members)) l
trails_one no_members k d l h g = (g, tt)
trails_one (member m e found) k d l h g = (h.0, trails_one found k d l h.1 g)

after : (k l : List ℕ) → slice_cmp nat_cmp k l ≡ Less → slice_cmp nat_cmp l k ≡ Greater
after k l h = nat_list_cmp_total.antisymm l k ∙ ap ordering_reverse h

follows_one : (found : Members) (k : List ℕ) (d : Data) (ms : Members) → Leads k ms → Follows found ms → Follows (joined found (member k d no_members)) ms
follows_one found k d no_members h f = tt
follows_one found k d (member l e ms) h f = (trails_one found k d l f.0 (after k l h.0), follows_one found k d ms h.1 f.1)

follows_none : (ms : Members) → Follows no_members ms
follows_none no_members = tt
follows_none (member k d ms) = (tt, follows_none ms)

joined_none : (found : Members) → joined found no_members ≡ found
joined_none no_members = refl
joined_none (member k d found) = ap (member k d) (joined_none found)

-- ---- the JSON as a datum

mutual
  of_outline : (d : Data) → IsOrderly d → of_json (outline d) ≡ Some d
  of_outline null h = refl
  of_outline (boolean b) h = refl
  of_outline (number (unsigned n)) h = ap (option_map number) (number_of-decimal n h)
  of_outline (number (negative (pos n))) h = absurd h
  of_outline (number (negative (negsuc n))) h = ap (option_map number) (number_of-negative n h)
  of_outline (number (float x)) h = absurd h
  of_outline (string s) h = refl
  of_outline (array ds) h = ap (option_map array) (of_items_outline ds h)
  of_outline (object ms) h = ap (option_map object) (of_members_outline no_members ms h (follows_none ms))

  of_items_outline : (ds : Items) → AreOrderlyItems ds → of_items (items_outline ds) ≡ Some ds
  of_items_outline no_items h = refl
  of_items_outline (item d ds) h = rw (of_outline d h.0, of_items_outline ds h.1) refl

  of_members_outline : (found ms : Members) → AreOrderlyMembers ms → Follows found ms → of_members (members_outline ms) found ≡ Some (joined found ms)
  of_members_outline found no_members h f = ap Some (sym (joined_none found))
  of_members_outline found (member k d ms) h f =
      ap (option_and_then (λ e. of_members (members_outline ms) (put k e found))) (of_outline d h.0)
      ∙ (ap (of_members (members_outline ms)) (put-joined found k d f.0)
      ∙ (of_members_outline (joined found (member k d no_members)) ms h.2 (follows_one found k d ms h.1 f.1)
      ∙ ap Some (joined-one found k d ms)))

-- what nests at most as deep as the reader goes is read back
pub read-compact_text : (d : Data) → IsOrderly d → depth d ≤ max_depth → read (compact_text d) ≡ Some d
read-compact_text d h deep =
    let j = outline d in
    let all : tokens (compact_text d) ≡ json_tokens j = ap tokens (sym (print-outline d)) ∙ tokens-print (json_tokens j) (ArePrintable-json_tokens j (has_numbers d h)) in
    let within : tree_depth.depth j ≤ max_depth = omega (arith, depth_outline d, deep) in
    let whole : tree.value max_depth (tokens (compact_text d)) ≡ Some (j, []) = ap (tree.value max_depth) (all ∙ sym (append-nil (json_tokens j))) ∙ value-json_tokens j max_depth [] within in
    ap (λ r. option_and_then of_json (option_and_then (λ p. tree.if_last p.0 p.1) r)) whole ∙ of_outline d h
