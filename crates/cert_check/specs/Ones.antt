-- Certificates by the rules of version 1 alone, and what a text is by them.
use Rattle.std.specs.Prelude.{◌≡◌, ◌≤◌, ◌<◌, ℕ, List, ◌++◌, map, length, All}
use Rattle.pc_common.specs.{declared.limits.TheConstants.{MAX_CERTIFICATE}, World.{Node, Edge}, Generated.{HasEnds}, Steps.{Step}}
use Rattle.pc_common.specs.Lines.{Line, Verdict, observable, unobservable, line_words, lines_text, step}
use Rattle.pc_ground.specs.{NodeForm.{IsNodeIn}, declared.version.Version.TheVariants.{One as version_one}, Refutes.{Branch, IsPartial, IsRefutation}}
use Rattle.graph_text.specs.Graphs.{graph_lines}
use Rattle.line_judge.specs.Texts.{IsRefusedAt}
use Rattle.cert_check.specs.Certificates.{Question, header, certificate_lines, IsGraphCertificate, IsTreeCertificate, IsCertificateText}
use Rattle.cert_check.specs.declared.one.One.{One, TheVariants.{Graph, Tree, Refused}}

-- the lines are a certificate of this verdict; a refutation is of version 1
abbrev pub IsCertificateOne : Question → Verdict → List Line → Type 0
IsCertificateOne q observable lines = IsGraphCertificate q lines
IsCertificateOne q unobservable lines = IsTreeCertificate q version_one lines

-- what such a certificate may begin with
pub data BeginsOne (q : Question) (lines : List Line) : Type 0 where
  one_header : (v : Verdict) (more : List Line) → lines ++ more ≡ header q v → BeginsOne q lines
  one_graph : (nodes : List Node) (edges : List Edge) → All (IsNodeIn q.names) nodes → HasEnds nodes edges
      → lines ≡ header q observable ++ graph_lines nodes edges → BeginsOne q lines
  one_tree : (steps : List (Step Node)) (opens : List Branch) → IsPartial version_one q.tree steps opens
      → lines ≡ header q unobservable ++ map step steps → BeginsOne q lines
  one_whole : (v : Verdict) → IsCertificateOne q v lines → BeginsOne q lines

-- the lines, as bytes, begin such a certificate well
pub record RawBeginsOne (q : Question) (raws : List (List ℕ)) : Type 0 where
  pub lines : List Line
  pub are : raws ≡ map (line_words q.names) lines
  pub begins : BeginsOne q lines

-- they are one
pub record RawWholeOne (q : Question) (raws : List (List ℕ)) : Type 0 where
  pub verdict : Verdict
  pub lines : List Line
  pub are : raws ≡ map (line_words q.names) lines
  pub certificate : IsCertificateOne q verdict lines

-- the text is that of these steps, which refute the ground tree by the rules of version 1
pub record IsTreeText (q : Question) (text : List ℕ) (steps : List (Step Node)) : Type 0 where
  pub text_is : text ≡ lines_text q.names (certificate_lines q unobservable (map step steps))
  pub refutes : IsRefutation version_one q.tree steps

-- a certificate of a graph, or of these steps; or, where the text is neither, the first line with which it doesn't
-- begin well any more; or 0 where it is longer than the limit
pub data IsOne (q : Question) (text : List ℕ) : One → Type 0 where
  shown : length text ≤ MAX_CERTIFICATE → IsCertificateText q observable text → IsOne q text Graph
  refuted : (steps : List (Step Node)) → length text ≤ MAX_CERTIFICATE → IsTreeText q text steps
      → IsOne q text (Tree steps)
  one_too_long : MAX_CERTIFICATE < length text → IsOne q text (Refused 0)
  one_refused : (n : ℕ) → length text ≤ MAX_CERTIFICATE → (IsCertificateText q observable text → ⊥)
      → ((steps : List (Step Node)) → IsTreeText q text steps → ⊥)
      → IsRefusedAt (RawBeginsOne q) (RawWholeOne q) text n → IsOne q text (Refused n)
