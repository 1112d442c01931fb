-- Names and reserved words (C99, 6.4.1 and 6.4.2.1).
use Rattle.std.specs.Prelude.{Bool, true, false, cond, ◌&&◌, List, [], ◌∷◌, ◌==◌, Option, Some, None, codes}
use Rattle.std.specs.List.{list_all}
use Rattle.c_tree.specs.declared.keywords.Keyword.{Keyword}
use Rattle.c_tree.specs.declared.keywords.Keyword.TheVariants as keyword
use Rattle.c_tree.specs.declared.words.Word.{Word}
use Rattle.c_tree.specs.declared.words.Word.TheVariants as word
use Rattle.c_tree.specs.Bytes.{Text, is_letter, is_name_byte}

-- A letter or `_`, then letters, digits and `_`.
abbrev pub is_name : Text → Bool
is_name [] = false
is_name (c ∷ t) = is_letter c && list_all is_name_byte t

-- How a reserved word is spelled.
abbrev pub spelled_keyword : Keyword → Text
spelled_keyword keyword.Int = codes "int"
spelled_keyword keyword.Unsigned = codes "unsigned"
spelled_keyword keyword.Signed = codes "signed"
spelled_keyword keyword.Char = codes "char"
spelled_keyword keyword.Short = codes "short"
spelled_keyword keyword.Long = codes "long"
spelled_keyword keyword.Void = codes "void"
spelled_keyword keyword.Struct = codes "struct"
spelled_keyword keyword.Union = codes "union"
spelled_keyword keyword.Static = codes "static"
spelled_keyword keyword.If = codes "if"
spelled_keyword keyword.Else = codes "else"
spelled_keyword keyword.While = codes "while"
spelled_keyword keyword.Return = codes "return"
spelled_keyword keyword.Sizeof = codes "sizeof"
spelled_keyword keyword.Safe = codes "safe"
spelled_keyword keyword.Count = codes "count"
spelled_keyword keyword.Bound = codes "bound"
spelled_keyword keyword.Sentinel = codes "sentinel"
spelled_keyword keyword.Nullterm = codes "nullterm"
spelled_keyword keyword.When = codes "when"
spelled_keyword keyword.Zero = codes "zero"
spelled_keyword keyword.Kalloc = codes "kalloc"
spelled_keyword keyword.Kfree = codes "kfree"
spelled_keyword keyword.For = codes "for"
spelled_keyword keyword.Switch = codes "switch"
spelled_keyword keyword.Case = codes "case"
spelled_keyword keyword.Default = codes "default"
spelled_keyword keyword.Break = codes "break"
spelled_keyword keyword.Do = codes "do"
spelled_keyword keyword.Goto = codes "goto"
spelled_keyword keyword.Continue = codes "continue"
spelled_keyword keyword.Typedef = codes "typedef"
spelled_keyword keyword.Enum = codes "enum"
spelled_keyword keyword.Const = codes "const"
spelled_keyword keyword.Volatile = codes "volatile"
spelled_keyword keyword.Extern = codes "extern"
spelled_keyword keyword.Inline = codes "inline"
spelled_keyword keyword.Float = codes "float"
spelled_keyword keyword.Double = codes "double"
spelled_keyword keyword.Register = codes "register"
spelled_keyword keyword.Auto = codes "auto"
spelled_keyword keyword.Restrict = codes "restrict"

-- All reserved words.
abbrev pub keywords : List Keyword
keywords = keyword.Int ∷ keyword.Unsigned ∷ keyword.Signed ∷ keyword.Char ∷ keyword.Short ∷ keyword.Long ∷ keyword.Void ∷ keyword.Struct ∷ keyword.Union ∷ keyword.Static ∷ keyword.If ∷ keyword.Else ∷ keyword.While ∷ keyword.Return ∷ keyword.Sizeof ∷ keyword.Safe ∷ keyword.Count ∷ keyword.Bound ∷ keyword.Sentinel ∷ keyword.Nullterm ∷ keyword.When ∷ keyword.Zero ∷ keyword.Kalloc ∷ keyword.Kfree ∷ keyword.For ∷ keyword.Switch ∷ keyword.Case ∷ keyword.Default ∷ keyword.Break ∷ keyword.Do ∷ keyword.Goto ∷ keyword.Continue ∷ keyword.Typedef ∷ keyword.Enum ∷ keyword.Const ∷ keyword.Volatile ∷ keyword.Extern ∷ keyword.Inline ∷ keyword.Float ∷ keyword.Double ∷ keyword.Register ∷ keyword.Auto ∷ keyword.Restrict ∷ []

-- Whether two texts are the same.
abbrev pub same_text : Text → Text → Bool
same_text [] [] = true
same_text [] (d ∷ u) = false
same_text (c ∷ t) [] = false
same_text (c ∷ t) (d ∷ u) = c == d && same_text t u

-- Which of these reserved words is spelled so, if one is.
abbrev pub keyword_among : List Keyword → Text → Option Keyword
keyword_among [] t = None
keyword_among (k ∷ ks) t = cond (same_text (spelled_keyword k) t) (Some k) (keyword_among ks t)

-- The reserved word that is spelled so, if there is one.
unfoldable pub reserved : Text → Option Keyword
reserved t = keyword_among keywords t

-- The word that a name's spelling stands for: a reserved word, or the name.
abbrev pub named : Text → Option Keyword → Word
named t None = word.Name t
named t (Some k) = word.Keyword k
