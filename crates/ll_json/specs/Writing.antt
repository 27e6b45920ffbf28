-- JSON text that is put into a buffer of fixed size, token after token.
-- Source: RFC 8259, section 2.
use Rattle.std.specs.Prelude.{ℕ, Bool, false, List, [], ◌++◌, codes, fold, if◌then◌else◌}
use Rattle.json.specs.Print.{ends, separator, token_text}
use Rattle.json.specs.Token.{Token}
use Rattle.ll_explain.specs.Buffers.{Buffered, adding}

-- a text, and whether it ends with a value, so that a comma has to stand before the next one
pub record Written : Type 0 where
  pub text : Buffered
  pub after_value : Bool

-- the comma where there has to be one
abbrev pub comma_behind : Bool → List ℕ
comma_behind after_value = if after_value then codes "," else []

-- no token is written yet
abbrev pub begun : Buffered → Written
begun text = record { text = text; after_value = false }

-- one token more is written, behind a comma where there has to be one
unfoldable pub with_token : Written → Token → Written
with_token out token = record {
  text = adding out.text (separator out.after_value token ++ token_text token);
  after_value = ends token;
}

-- tokens are written, one after another
unfoldable pub writing : Written → List Token → Written
writing out tokens = fold with_token out tokens
