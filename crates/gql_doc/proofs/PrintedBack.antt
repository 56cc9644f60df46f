-- What is printed of a document reads back: its text is the same document up to places.
use Rattle.std.proofs.Common.{◌≡◌, ℕ, Bool, true, List, [], ◌∷◌, map, refl, sym, ◌∙◌, ap, subst, IsUtf8}
use Rattle.std.specs.Prelude.{◌&&◌, IsSome}
use Rattle.std.specs.Str.{bytes_eq}
use Rattle.std.specs.List.{AllByRecursion as Each}
use Rattle.gql_lex.specs.Tokens.{Lexeme, Whole}
use Rattle.gql_lex.proofs.Lexing.{IsRight, tokens-right}
use Rattle.gql_lex.proofs.Texts.{IsTextOf}
use Rattle.gql_doc.specs.Answer.{Is}
use Rattle.gql_doc.proofs.QuotedFront.{quoted_reads_back}
use Rattle.gql_doc.proofs.Pieces.{IsWritten}
use Rattle.gql_doc.proofs.Spaced.{spaced_lexes}
use Rattle.gql_doc.proofs.Written.{string-written, IsUtf8-spaced}
use Rattle.gql_doc.proofs.Meant.{values-utf8}
use Rattle.gql_lex.specs.declared.token.TokenKind.{TokenKind}
use Rattle.gql_lex.specs.declared.token.TokenKind.TheVariants as kind
use Rattle.gql_doc.specs.StringValue.{string_value}
use Rattle.gql_doc.specs.Terminals.{is_punctuator_kind, is_name_kind, is_number_kind, is_string_kind}
use Rattle.gql_doc.specs.Nesting.{limit, IsWithin}
use Rattle.gql_doc.specs.Grammar.{IsDocument}
use Rattle.gql_doc.specs.Grammar
use Rattle.gql_doc.specs.Pieces.{Piece, piece}
use Rattle.gql_doc.specs.Printed.{string, printed, print_text}
use Rattle.gql_doc.specs.Unplaced.{unplaced}
use Rattle.gql_doc.proofs.Follows.{Alike, AreAlike, room_alike}
use Rattle.gql_doc.proofs.FollowsGrammar.{follows_document}
use Rattle.gql_doc.proofs.Prints.{reprint, reprint_of}
use Rattle.gql_doc.proofs.Shorter.{ReadsBack, EachReadsBack, Shorter, shorter_document}
use Rattle.gql_model.specs.declared.syntax.Document.{Document}

-- a token is printed as one that passes the same tests
punctuators_reprint : (k : TokenKind) (own text : List ℕ) → (is_punctuator_kind (reprint_of k own).kind && bytes_eq (reprint_of k own).text text) ≡ (is_punctuator_kind k && bytes_eq own text)
punctuators_reprint kind.Punctuator own text = refl
punctuators_reprint kind.Name own text = refl
punctuators_reprint kind.Int own text = refl
punctuators_reprint kind.Quoted own text = refl
punctuators_reprint kind.Block own text = refl

kind_reprint : (test : TokenKind → Bool) (k : TokenKind) (text : List ℕ) → (test kind.Block ≡ test kind.Quoted) → test (reprint_of k text).kind ≡ test k
kind_reprint test kind.Punctuator text strings = refl
kind_reprint test kind.Name text strings = refl
kind_reprint test kind.Int text strings = refl
kind_reprint test kind.Quoted text strings = refl
kind_reprint test kind.Block text strings = sym strings

name_reprint : (k : TokenKind) (text : List ℕ) → is_name_kind k ≡ true → text ≡ (reprint_of k text).text
name_reprint kind.Name text h = refl
name_reprint kind.Int text h = absurd (cc)
name_reprint kind.Punctuator text h = absurd (cc)
name_reprint kind.Quoted text h = absurd (cc)
name_reprint kind.Block text h = absurd (cc)

number_reprint : (k : TokenKind) (text : List ℕ) → is_number_kind k ≡ true → text ≡ (reprint_of k text).text
number_reprint kind.Int text h = refl
number_reprint kind.Name text h = absurd (cc)
number_reprint kind.Punctuator text h = absurd (cc)
number_reprint kind.Quoted text h = absurd (cc)
number_reprint kind.Block text h = absurd (cc)

string_reprint : (k : TokenKind) (text : List ℕ) → is_string_kind k ≡ true → reprint_of k text ≡ string (string_value k text)
string_reprint kind.Quoted text h = refl
string_reprint kind.Block text h = refl
string_reprint kind.Int text h = absurd (cc)
string_reprint kind.Name text h = absurd (cc)
string_reprint kind.Punctuator text h = absurd (cc)

-- a token that is like another one, as it is printed
alike_printed : (t o : Lexeme) → piece o ≡ reprint t → ReadsBack t → Alike t o
alike_printed t o same reads = record {
  punctuators = λ text. ap (λ (p : Piece). is_punctuator_kind p.kind && bytes_eq p.text text) same ∙ punctuators_reprint t.kind t.text text;
  names = ap (λ (p : Piece). is_name_kind p.kind) same ∙ kind_reprint is_name_kind t.kind t.text refl;
  numbers = ap (λ (p : Piece). is_number_kind p.kind) same ∙ kind_reprint is_number_kind t.kind t.text refl;
  strings = ap (λ (p : Piece). is_string_kind p.kind) same ∙ kind_reprint is_string_kind t.kind t.text refl;
  name = λ h. name_reprint t.kind t.text h ∙ sym (ap (λ (p : Piece). p.text) same);
  number = λ h. number_reprint t.kind t.text h ∙ sym (ap (λ (p : Piece). p.text) same);
  string = λ h. sym (ap (λ (p : Piece). string_value p.kind p.text) (same ∙ string_reprint t.kind t.text h) ∙ reads.back h);
}

alike_all : (ts os : List Lexeme) → map piece os ≡ map reprint ts → EachReadsBack ts → AreAlike ts os
alike_all [] [] same reads = tt
alike_all [] (o ∷ os) same reads = absurd (cc)
alike_all (t ∷ ts) [] same reads = absurd (cc)
alike_all (t ∷ ts) (o ∷ os) same reads =
    let first : piece o ≡ reprint t = cc in
    let others : map piece os ≡ map reprint ts = cc in
    (alike_printed t o first reads.0, alike_all ts os others reads.1)

-- ---- what is written

written_reprint : (k : TokenKind) (text : List ℕ) → IsTextOf k text → IsUtf8 (string_value k text) → IsWritten (reprint_of k text)
written_reprint kind.Punctuator text is utf8 = is
written_reprint kind.Name text is utf8 = is
written_reprint kind.Int text is utf8 = is
written_reprint kind.Quoted text is utf8 = string-written (string_value kind.Quoted text) utf8
written_reprint kind.Block text is utf8 = string-written (string_value kind.Block text) utf8

reads_back : (t : Lexeme) → IsRight t → IsUtf8 (string_value t.kind t.text) → ReadsBack t
reads_back t right utf8 = record { back = λ h. quoted_reads_back (string_value t.kind t.text) utf8; written = written_reprint t.kind t.text right utf8 }

each_reads_back : (tokens : List Lexeme) → Each IsRight tokens → Each (λ (t : Lexeme). IsUtf8 (string_value t.kind t.text)) tokens → EachReadsBack tokens
each_reads_back [] right utf8 = tt
each_reads_back (t ∷ ts) right utf8 = (reads_back t right.0 utf8.0, each_reads_back ts right.1 utf8.1)

each_written : (tokens : List Lexeme) → EachReadsBack tokens → Each IsWritten (map reprint tokens)
each_written [] h = tt
each_written (t ∷ ts) h = (h.0.written, each_written ts h.1)

-- ---- documents

-- tokens of the kinds and texts that are printed of a document are that document up to places
pub printed_document : (depth : ℕ) (tokens : List Lexeme) (d : Document) → Grammar.document depth tokens d → EachReadsBack tokens
    → (others : List Lexeme) → map piece others ≡ printed d → (e : Document) × Grammar.document depth others e × (unplaced e ≡ unplaced d)
printed_document depth tokens d h reads others same =
    let found : Shorter (Grammar.document depth) unplaced printed tokens d = shorter_document depth tokens d h in
    let alike : AreAlike found.short others = alike_all found.short others (same ∙ found.prints) (found.keeps.strings reads) in
    let again = (follows_document depth).again found.short found.it found.is others alike in
    (again.0, again.1, sym again.2 ∙ found.again)

-- and they nest within the limit where the document's tokens do
pub printed_within : (depth : ℕ) (tokens : List Lexeme) (d : Document) → Grammar.document depth tokens d → EachReadsBack tokens
    → (others : List Lexeme) → map piece others ≡ printed d → IsWithin tokens → IsWithin others
printed_within depth tokens d h reads others same within =
    let found : Shorter (Grammar.document depth) unplaced printed tokens d = shorter_document depth tokens d h in
    let alike : AreAlike found.short others = alike_all found.short others (same ∙ found.prints) (found.keeps.strings reads) in
    subst IsSome (sym (room_alike found.short others alike limit ∙ found.keeps.room limit)) within

-- each piece that is printed is right for its kind
printed_written : (depth : ℕ) (tokens : List Lexeme) (d : Document) → Grammar.document depth tokens d → EachReadsBack tokens → Each IsWritten (printed d)
printed_written depth tokens d h reads =
    let found : Shorter (Grammar.document depth) unplaced printed tokens d = shorter_document depth tokens d h in
    subst (Each IsWritten) (sym found.prints) (each_written found.short (found.keeps.strings reads))

-- ---- texts

-- what is printed of a text's document is that document, up to places
pub printed_again : (text : List ℕ) (d : Document) → IsUtf8 text → Is text d → (e : Document) × Is (print_text d) e × (unplaced e ≡ unplaced d)
printed_again text d utf8 is =
    let reads = each_reads_back is.tokens (tokens-right [] text is.tokens Whole is.all) (values-utf8 text is.tokens Whole utf8 is.all) in
    let lexed = spaced_lexes (printed d) (printed_written is.document.0 is.tokens d is.document.1 reads) in
    let again = printed_document is.document.0 is.tokens d is.document.1 reads lexed.0 lexed.2 in
    (again.0, record { tokens = lexed.0; all = lexed.1; document = (is.document.0, again.1); within = printed_within is.document.0 is.tokens d is.document.1 reads lexed.0 lexed.2 is.within }, again.2)

pub printed_utf8 : (text : List ℕ) (d : Document) → IsUtf8 text → Is text d → IsUtf8 (print_text d)
printed_utf8 text d utf8 is =
    IsUtf8-spaced (printed d) (printed_written is.document.0 is.tokens d is.document.1 (each_reads_back is.tokens (tokens-right [] text is.tokens Whole is.all) (values-utf8 text is.tokens Whole utf8 is.all)))
