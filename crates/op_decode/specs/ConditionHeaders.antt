-- Conditions of a request on its node (RFC 9110, section 13.1). They never fail: an item that is no tag matches nothing, and a text that
-- is no date is as if it were absent.
use Rattle.std.specs.Prelude.{ℕ, List, Option, option_map, option_and_then, codes}
use Rattle.httpdate.specs.Date.{parse_secs}
use Rattle.head_text.specs.ETags.{etags_of}
use Rattle.head_text.specs.Tags.{Tags}
use Rattle.head_text.specs.declared.conditions.Conditions.{Conditions}
use Rattle.http_front.specs.declared.raw.Raw.{Raw}
use Rattle.op_decode.specs.Headers.{header}

unfoldable pub tags_in : List ℕ → Raw → Option Tags
tags_in name raw = option_map etags_of (header name raw)

unfoldable pub date_in : List ℕ → Raw → Option ℕ
date_in name raw = option_and_then parse_secs (header name raw)

unfoldable pub conditions_in : Raw → Conditions
conditions_in raw = record {
  matches = tags_in (codes "if-match") raw;
  none = tags_in (codes "if-none-match") raw;
  modified = date_in (codes "if-modified-since") raw;
  unmodified = date_in (codes "if-unmodified-since") raw;
}
