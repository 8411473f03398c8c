-- A feed's text, of each kind of change.
use Rattle.std.proofs.Common.{◌≡◌, ℕ, List, pos, negsuc, [], ◌∷◌, ◌++◌, Some, None, true, false}
use Rattle.std.proofs.Common.{refl}
use Rattle.std.specs.Prelude.{codes}
use Rattle.std.specs.Fmt.{digits}
use Rattle.std.specs.Str.{is_utf8, chars}
use Rattle.json.specs.Print.{escape_byte}
use Rattle.hex.specs.Hex.{encode_with}
use Rattle.pglsn.specs.Texts.{lsn_text, half_text}
use Rattle.pgtuple.specs.declared.cell.Cell.TheVariants.{Null, Unchanged, Text, Binary}
use Rattle.pglogical.specs.declared.message.RelationDef.{RelationDef}
use Rattle.pglogical.specs.declared.message.OldKind.TheVariants.{Key, Full}
use Rattle.pgledger.specs.declared.image.Image.TheVariants.{Inserted, Updated, Deleted, Truncated}
use Rattle.pgledger.specs.declared.image.Image.TheVariants.{Missed}
use Rattle.pgledger.specs.Entries.{Entry}
use Rattle.pgcrc.specs.Crc.{after_bit, after_bits, bits, crc32}
use Rattle.pgfeed.specs.declared.told.Told.{Told}
use Rattle.pgfeed.specs.Texts.{body_text, closing_object, content_data, crc_text, entry_body}
use Rattle.pgfeed.specs.Texts.{entry_crc, entry_text, is_text, key_data, messages_text, padded}
use Rattle.pgfeed.specs.Texts.{place, segment_head, table_front, table_rest}

abbrev stock : RelationDef
stock = record {
  oid = 16384;
  namespace = codes "public";
  name = codes "stock";
  letter = 100;
  columns =
      record { key = true; name = codes "sku"; type_oid = 25; modifier = negsuc 0 }
      ∷ record { key = false; name = codes "quantity"; type_oid = 23; modifier = negsuc 0 }
      ∷ [];
}

abbrev stock2 : RelationDef
stock2 = record {
  oid = 16384;
  namespace = codes "public";
  name = codes "stock";
  letter = 100;
  columns =
      record { key = true; name = codes "sku"; type_oid = 25; modifier = negsuc 0 }
      ∷ record { key = false; name = codes "quantity"; type_oid = 23; modifier = negsuc 0 }
      ∷ record { key = false; name = codes "price"; type_oid = 1700; modifier = pos 655366 }
      ∷ [];
}

abbrev notes : RelationDef
notes = record {
  oid = 16390;
  namespace = codes "";
  name = codes "no\"tes";
  letter = 102;
  columns =
      record { key = false; name = codes "text"; type_oid = 25; modifier = negsuc 0 }
      ∷ record { key = false; name = codes "data"; type_oid = 17; modifier = negsuc 0 }
      ∷ [];
}

-- an entry whose lines begin at an offset, where these definitions are told
abbrev text_of : List Told → ℕ → ℕ → Entry → List ℕ
text_of told at prev e = entry_text prev e (entry_body told at e)

abbrev crc_of : List Told → ℕ → ℕ → Entry → ℕ
crc_of told at prev e = entry_crc prev e (entry_body told at e)

-- the newest definition of a relation stands where it is told, an older one nowhere
newest_place : place (record { definition = stock; offset = 1280 } ∷ record { definition = stock2; offset = 2000 } ∷ []) stock2 ≡ Some 2000
newest_place = refl

older_place : place (record { definition = stock; offset = 1280 } ∷ record { definition = stock2; offset = 2000 } ∷ []) stock ≡ None
older_place = refl

other_place : place (record { definition = stock; offset = 1280 } ∷ record { definition = notes; offset = 2000 } ∷ []) stock ≡ Some 1280
other_place = refl

-- a row comes, changes and goes
abbrev three : Entry
three = record {
  end = 622870888;
  about = Some (record { final_lsn = 622870840; xid = 739; time = pos 753000000123456 });
  messages = [];
  lines =
      record { definition = stock; image = Inserted (Text (codes "A-1") ∷ Text (codes "5") ∷ []) }
      ∷ record { definition = stock; image = Updated (Text (codes "A-1") ∷ Text (codes "5") ∷ []) (Text (codes "A-1") ∷ Null ∷ []) }
      ∷ record { definition = stock; image = Deleted (Text (codes "A-1") ∷ Null ∷ []) }
      ∷ [];
}

three_text : text_of [] 1280 622870584 three ≡
    padded 256 (codes "{\"end\":\"0/25204168\",\"prev\":\"0/25204038\",\"bytes\":327,\"changes\":3,\"lsn\":\"0/25204138\",\"xid\":739,\"ts_us\":1699684800123456" ++ crc_text (crc_of [] 1280 622870584 three))
    ++ (codes "{\"op\":\"table\",\"oid\":16384,\"schema\":\"public\",\"table\":\"stock\",\"identity\":\"d\",\"key\":[\"sku\"],\"columns\":[[\"sku\",25,-1],[\"quantity\",23,-1]]}\n"
    ++ (codes "{\"op\":\"c\",\"at\":1280,\"n\":0,\"before\":null,\"after\":[\"A-1\",\"5\"]}\n"
    ++ (codes "{\"op\":\"u\",\"at\":1280,\"n\":1,\"before\":[\"A-1\",\"5\"],\"after\":[\"A-1\",null]}\n"
    ++ (codes "{\"op\":\"d\",\"at\":1280,\"n\":2,\"before\":[\"A-1\",null],\"after\":null}\n"))))
unfolding entry_text messages_text body_text lsn_text half_text digits escape_byte table_front table_rest key_data lib.Utf8.encode
three_text = refl

-- two relations, of which one is told already, and defined anew
abbrev interleaved : Entry
interleaved = record {
  end = 622871000;
  about = Some (record { final_lsn = 622870840; xid = 739; time = pos 753000000123456 });
  messages = [];
  lines =
      record { definition = stock; image = Inserted (Text (codes "A") ∷ Text (codes "1") ∷ []) }
      ∷ record { definition = notes; image = Inserted (Text ((codes "" ++ 195 ∷ 169 ∷ codes " \"x\"\n")) ∷ Binary (0 ∷ 255 ∷ []) ∷ []) }
      ∷ record { definition = stock; image = Deleted (Text (codes "A") ∷ Text (codes "1") ∷ []) }
      ∷ record { definition = stock2; image = Inserted (Text (codes "A") ∷ Text (codes "1") ∷ Text (codes "0.50") ∷ []) }
      ∷ record { definition = notes; image = Inserted (Text (codes "") ∷ Null ∷ []) }
      ∷ record {
        definition = stock2;
        image = Updated (Text (codes "A") ∷ Text (codes "1") ∷ Text (codes "0.50") ∷ [])
            (Text (codes "B") ∷ Text (codes "1") ∷ Text (codes "0.50") ∷ []);
      }
      ∷ [];
}

interleaved_text : text_of (record { definition = stock; offset = 1280 } ∷ []) 1899 622870888 interleaved ≡
    padded 256 (codes "{\"end\":\"0/252041D8\",\"prev\":\"0/25204168\",\"bytes\":692,\"changes\":6,\"lsn\":\"0/25204138\",\"xid\":739,\"ts_us\":1699684800123456" ++ crc_text (crc_of (record { definition = stock; offset = 1280 } ∷ []) 1899 622870888 interleaved))
    ++ (codes "{\"op\":\"c\",\"at\":1280,\"n\":0,\"before\":null,\"after\":[\"A\",\"1\"]}\n"
    ++ (codes "{\"op\":\"table\",\"oid\":16390,\"schema\":\"pg_catalog\",\"table\":\"no\\\"tes\",\"identity\":\"f\",\"key\":null,\"columns\":[[\"text\",25,-1],[\"data\",17,-1]]}\n"
    ++ ((codes "{\"op\":\"c\",\"at\":1958,\"n\":1,\"before\":null,\"after\":[\"" ++ 195 ∷ 169
    ∷ codes " \\\"x\\\"\\n\",{\"hex\":\"00ff\"}]}\n")
    ++ (codes "{\"op\":\"d\",\"at\":1280,\"n\":2,\"before\":[\"A\",\"1\"],\"after\":null}\n"
    ++ (codes "{\"op\":\"table\",\"oid\":16384,\"schema\":\"public\",\"table\":\"stock\",\"identity\":\"d\",\"key\":[\"sku\"],\"columns\":[[\"sku\",25,-1],[\"quantity\",23,-1],[\"price\",1700,655366]]}\n"
    ++ (codes "{\"op\":\"c\",\"at\":2231,\"n\":3,\"before\":null,\"after\":[\"A\",\"1\",\"0.50\"]}\n"
    ++ (codes "{\"op\":\"c\",\"at\":1958,\"n\":4,\"before\":null,\"after\":[\"\",null]}\n"
    ++ (codes "{\"op\":\"u\",\"at\":2231,\"n\":5,\"before\":[\"A\",\"1\",\"0.50\"],\"after\":[\"B\",\"1\",\"0.50\"]}\n"))))))))
unfolding entry_text messages_text body_text lsn_text half_text digits escape_byte table_front table_rest key_data lib.Utf8.encode
    encode_with
interleaved_text = refl

-- all rows go
abbrev truncated : Entry
truncated = record {
  end = 622872000;
  about = Some (record { final_lsn = 622870840; xid = 739; time = pos 753000000123456 });
  messages = [];
  lines =
      record { definition = notes; image = Truncated }
      ∷ [];
}

truncated_text : text_of [] 1280 622871000 truncated ≡
    padded 256 (codes "{\"end\":\"0/252045C0\",\"prev\":\"0/252041D8\",\"bytes\":189,\"changes\":1,\"lsn\":\"0/25204138\",\"xid\":739,\"ts_us\":1699684800123456" ++ crc_text (crc_of [] 1280 622871000 truncated))
    ++ (codes "{\"op\":\"table\",\"oid\":16390,\"schema\":\"pg_catalog\",\"table\":\"no\\\"tes\",\"identity\":\"f\",\"key\":null,\"columns\":[[\"text\",25,-1],[\"data\",17,-1]]}\n"
    ++ (codes "{\"op\":\"t\",\"at\":1280,\"n\":0,\"before\":null,\"after\":null}\n"))
unfolding entry_text messages_text body_text lsn_text half_text digits escape_byte table_front table_rest key_data lib.Utf8.encode
truncated_text = refl

-- the checksum is of what its line tells before it, and of the lines that follow
truncated_crc : crc_of [] 1280 622871000 truncated ≡ 1458147133
unfolding entry_crc messages_text body_text lsn_text half_text digits escape_byte table_front table_rest key_data lib.Utf8.encode
    crc32 after_bits after_bit bits
truncated_crc = refl

-- changes that found no row, with what was sent
abbrev missed : Entry
missed = record {
  end = 622873000;
  about = Some (record { final_lsn = 622870840; xid = 739; time = pos 753000000123456 });
  messages = [];
  lines =
      record { definition = stock; image = Missed None (Some (Text (codes "A") ∷ Unchanged ∷ [])) }
      ∷ record {
        definition = stock;
        image = Missed (Some (Key, (Text (codes "A") ∷ Null ∷ []))) (Some (Text (codes "B") ∷ Text (codes "1") ∷ []));
      }
      ∷ record { definition = stock; image = Missed (Some (Key, (Text (codes "A") ∷ Null ∷ []))) None }
      ∷ record { definition = notes; image = Missed (Some (Full, (Text (codes "a") ∷ Binary (16 ∷ []) ∷ []))) None }
      ∷ [];
}

missed_text : text_of [] 1280 622872000 missed ≡
    padded 256 (codes "{\"end\":\"0/252049A8\",\"prev\":\"0/252045C0\",\"bytes\":579,\"changes\":4,\"lsn\":\"0/25204138\",\"xid\":739,\"ts_us\":1699684800123456" ++ crc_text (crc_of [] 1280 622872000 missed))
    ++ (codes "{\"op\":\"table\",\"oid\":16384,\"schema\":\"public\",\"table\":\"stock\",\"identity\":\"d\",\"key\":[\"sku\"],\"columns\":[[\"sku\",25,-1],[\"quantity\",23,-1]]}\n"
    ++ (codes "{\"op\":\"x\",\"at\":1280,\"n\":0,\"sent\":\"u\",\"old\":null,\"new\":[\"A\",{\"unchanged\":true}]}\n"
    ++ (codes "{\"op\":\"x\",\"at\":1280,\"n\":1,\"sent\":\"u\",\"old\":[\"K\",[\"A\",null]],\"new\":[\"B\",\"1\"]}\n"
    ++ (codes "{\"op\":\"x\",\"at\":1280,\"n\":2,\"sent\":\"d\",\"old\":[\"K\",[\"A\",null]],\"new\":null}\n"
    ++ (codes "{\"op\":\"table\",\"oid\":16390,\"schema\":\"pg_catalog\",\"table\":\"no\\\"tes\",\"identity\":\"f\",\"key\":null,\"columns\":[[\"text\",25,-1],[\"data\",17,-1]]}\n"
    ++ (codes "{\"op\":\"x\",\"at\":1644,\"n\":3,\"sent\":\"d\",\"old\":[\"O\",[\"a\",{\"hex\":\"10\"}]],\"new\":null}\n"))))))
unfolding entry_text messages_text body_text lsn_text half_text digits escape_byte table_front table_rest key_data lib.Utf8.encode
    encode_with
missed_text = refl

-- messages, of which two are no texts, stand before the changes, whose definition moves
abbrev heard : Entry
heard = record {
  end = 622875000;
  about = Some (record { final_lsn = 622870840; xid = 739; time = pos 753000000123456 });
  messages =
      record { lsn = 622870700; prefix = codes "outbox"; content = codes "{\"id\":1}\n" }
      ∷ record { lsn = 622870720; prefix = codes ""; content = 0 ∷ 255 ∷ [] }
      ∷ record { lsn = 622870740; prefix = codes "p"; content = 65 ∷ 0 ∷ [] }
      ∷ record { lsn = 622870760; prefix = 195 ∷ 169 ∷ []; content = [] }
      ∷ [];
  lines = record { definition = notes; image = Truncated } ∷ [];
}

heard_text : text_of [] 1280 622874000 heard ≡
    padded 256 (codes "{\"end\":\"0/25205178\",\"prev\":\"0/25204D90\",\"bytes\":454,\"changes\":1,\"lsn\":\"0/25204138\",\"xid\":739,\"ts_us\":1699684800123456" ++ crc_text (crc_of [] 1280 622874000 heard))
    ++ (codes "{\"op\":\"m\",\"lsn\":\"0/252040AC\",\"prefix\":\"outbox\",\"content\":\"{\\\"id\\\":1}\\n\"}\n"
    ++ (codes "{\"op\":\"m\",\"lsn\":\"0/252040C0\",\"prefix\":\"\",\"content\":{\"hex\":\"00ff\"}}\n"
    ++ (codes "{\"op\":\"m\",\"lsn\":\"0/252040D4\",\"prefix\":\"p\",\"content\":{\"hex\":\"4100\"}}\n"
    ++ ((codes "{\"op\":\"m\",\"lsn\":\"0/252040E8\",\"prefix\":\"" ++ 195 ∷ 169 ∷ codes "\",\"content\":\"\"}\n")
    ++ (codes "{\"op\":\"table\",\"oid\":16390,\"schema\":\"pg_catalog\",\"table\":\"no\\\"tes\",\"identity\":\"f\",\"key\":null,\"columns\":[[\"text\",25,-1],[\"data\",17,-1]]}\n"
    ++ (codes "{\"op\":\"t\",\"at\":1545,\"n\":0,\"before\":null,\"after\":null}\n"))))))
unfolding entry_text messages_text body_text content_data is_text is_utf8 chars lsn_text half_text digits escape_byte table_front
    table_rest key_data lib.Utf8.encode encode_with
heard_text = refl

-- no change
abbrev nothing : Entry
nothing = record {
  end = 4294967312;
  about = Some (record { final_lsn = 622870840; xid = 739; time = pos 753000000123456 });
  messages = [];
  lines = [];
}

nothing_text : text_of [] 1280 622873000 nothing ≡
    padded 256 (codes "{\"end\":\"1/10\",\"prev\":\"0/252049A8\",\"bytes\":0,\"changes\":0,\"lsn\":\"0/25204138\",\"xid\":739,\"ts_us\":1699684800123456" ++ crc_text (crc_of [] 1280 622873000 nothing))
    ++ []
unfolding entry_text messages_text body_text lsn_text half_text digits escape_byte
nothing_text = refl

-- nothing is known of the commit
abbrev untold : Entry
untold = record { end = 622874000; about = None; messages = []; lines = [] }

untold_text : text_of [] 1280 622873000 untold ≡
    padded 256 (codes "{\"end\":\"0/25204D90\",\"prev\":\"0/252049A8\",\"bytes\":0,\"changes\":0,\"lsn\":null,\"xid\":null,\"ts_us\":null" ++ crc_text (crc_of [] 1280 622873000 untold)) ++ []
unfolding entry_text messages_text body_text lsn_text half_text digits escape_byte
untold_text = refl

-- the checksum is of what its line tells before it
untold_crc : crc_of [] 1280 622873000 untold ≡ 1985452095
unfolding entry_crc messages_text body_text lsn_text half_text digits escape_byte crc32 after_bits after_bit bits
untold_crc = refl

-- a time before 1970
abbrev early : Entry
early = record {
  end = 18446744073709551615;
  about = Some (record { final_lsn = 18446744073709551615; xid = 4294967295; time = negsuc 9223372036854775807 });
  messages = [];
  lines = [];
}

early_text : text_of [] 1280 0 early ≡
    padded 256 (codes "{\"end\":\"FFFFFFFF/FFFFFFFF\",\"prev\":\"0/0\",\"bytes\":0,\"changes\":0,\"lsn\":\"FFFFFFFF/FFFFFFFF\",\"xid\":4294967295,\"ts_us\":-9222425352054775808" ++ crc_text (crc_of [] 1280 0 early)) ++ []
unfolding entry_text messages_text body_text lsn_text half_text digits escape_byte
early_text = refl

-- the greatest numbers
abbrev late : Entry
late = record {
  end = 18446744073709551615;
  about = Some (record { final_lsn = 18446744073709551615; xid = 4294967295; time = pos 9223372036854775807 });
  messages = [];
  lines = [];
}

late_text : text_of [] 1280 18446744073709551614 late ≡
    padded 256 (codes "{\"end\":\"FFFFFFFF/FFFFFFFF\",\"prev\":\"FFFFFFFF/FFFFFFFE\",\"bytes\":0,\"changes\":0,\"lsn\":\"FFFFFFFF/FFFFFFFF\",\"xid\":4294967295,\"ts_us\":9224318721654775807" ++ crc_text (crc_of [] 1280 18446744073709551614 late)) ++ []
unfolding entry_text messages_text body_text lsn_text half_text digits escape_byte
late_text = refl

head : segment_head 622870584 (codes "7231") (codes "pu\"b") (codes "copy")
    ≡ codes "{\"feed\":4,\"base\":\"0/25204038\",\"system\":\"7231\",\"database\":\"pu\\\"b\",\"slot\":\"copy\"}                                                                                                                                                                                                                                                                                                                                                                                                                                                                                                                                                                                                                                                                                                                                                                                                                                                                                                                                                                                \n"
unfolding lsn_text half_text digits escape_byte
head = refl

-- what ends a segment
closing : closing_object 768 ≡ codes "{\"last\":\"0/300\"}"
unfolding lsn_text half_text digits
closing = refl
