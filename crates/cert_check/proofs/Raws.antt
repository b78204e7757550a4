-- A text of lines as bytes is a text of a certificate's lines.
use Rattle.std.proofs.{Common.{◌≡◌, inl, ℕ, suc, arith, List, [], ◌∷◌, ◌++◌, map, refl, ◌∙◌, ap, subst}, lemmas.List.{append-nil}}
use Rattle.std.{proofs.lemmas.List.Elements.{All-nil, All-cons, All-contains}, specs.List.{All}}
use Rattle.pc_common.{proofs.Elements.{contains_from_in}, specs.Lines.{Names, Line, line_words}}
use Rattle.pc_ground.specs.NodeForm.{AreReadable}
use Rattle.line_judge.specs.Texts.{IsLine, text_of_lines, IsMadeOf}
use Rattle.graph_text.proofs.{WholeGraphs.{joined_lines}, Spaces.{lacking_on_line}}
use Rattle.cert_check.specs.{Certificates.{Question, BeginsWell, IsCertificateText}, RawLines.{RawBegins, RawWhole, RawFirst}}
use Rattle.cert_check.proofs.{Firsts.{begins_first}, Bytes.{words_lack}, Propers.{IsProper}}

pub raw_lines : (names : Names) → AreReadable names → (ls : List Line) → All (IsProper names) ls → All IsLine (map (line_words names) ls)
raw_lines names readable [] all = All-nil IsLine
raw_lines names readable (l ∷ ls) all =
    All-cons IsLine (line_words names l) (map (line_words names) ls)
    (lacking_on_line (line_words names l) (words_lack names readable l (All-contains (IsProper names) (l ∷ ls) l all (contains_from_in l (l ∷ ls) (inl refl)))))
    (raw_lines names readable ls (λ k d inside. all (suc k) d (omega (arith, inside))))

-- a first part of lines as bytes
pub map_front : {X Y : Type 0} (f : X → Y) (xs : List X) (ys zs : List Y) → ys ++ zs ≡ map f xs
    → (us : List X) × (vs : List X) × (xs ≡ us ++ vs) × (ys ≡ map f us)
map_front f xs [] zs e = ([], xs, refl, refl)
map_front f [] (y ∷ ys) zs e = cc
map_front {X} {Y} f (x ∷ xs) (y ∷ ys) zs e =
    let heads : y ≡ f x = cc in
    let tails : ys ++ zs ≡ map f xs = cc in
    let r = map_front f xs ys zs tails in
    (x ∷ r.0, r.1, ap (λ (t : List X). x ∷ t) r.2, ap (λ (h : Y). h ∷ ys) heads ∙ ap (λ (t : List Y). f x ∷ t) r.3)

-- lines that begin well with some more begin well by themselves
pub raw_begins : (q : Question) (raws : List (List ℕ)) → RawFirst q raws → RawBegins q raws
raw_begins q raws b =
    let r = map_front (line_words q.names) b.both.lines raws b.more b.both.are in
    let P : List Line → Type 0 = λ ls. BeginsWell q ls in
    record { lines = r.0; are = r.3; begins = begins_first q r.0 r.1 (subst P r.2 b.both.begins) }

pub raw_first : (q : Question) (raws : List (List ℕ)) → RawBegins q raws → RawFirst q raws
raw_first q raws b = record { more = []; both = record { lines = b.lines; are = append-nil raws ∙ b.are; begins = b.begins } }

pub to_certificate : (q : Question) (text : List ℕ) (made : IsMadeOf (RawWhole q) text) → IsCertificateText q made.accepted.verdict text
to_certificate q text made =
    let w = made.accepted in
    record {
      lines = w.lines;
      text_is = made.text_is ∙ ap text_of_lines w.are ∙ joined_lines q.names w.lines;
      certificate = w.certificate;
    }
